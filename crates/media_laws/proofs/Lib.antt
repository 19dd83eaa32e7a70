pub mod Desks
pub mod Numbers
pub mod Printed
pub mod Refusals
pub mod Rows
pub mod Texts
pub mod Values
