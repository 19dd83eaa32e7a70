pub mod Converted
pub mod Growing
