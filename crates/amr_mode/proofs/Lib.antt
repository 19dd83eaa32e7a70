pub mod Nearest
pub mod Sets
