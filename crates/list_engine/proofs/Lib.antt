pub mod Digits
pub mod Records
pub mod Said
pub mod Texts
pub mod Written
