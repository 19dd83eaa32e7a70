pub mod Members
pub mod Nearest
pub mod Standing
