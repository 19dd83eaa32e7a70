pub mod Carried
pub mod Needs
pub mod Parts
