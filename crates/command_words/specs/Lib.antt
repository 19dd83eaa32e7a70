pub mod Asked
pub mod Built
pub mod Options
pub mod Rows
