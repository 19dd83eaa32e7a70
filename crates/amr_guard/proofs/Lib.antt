mod Sums
mod Division
mod Registers
mod Whole
pub mod Counts
pub mod Rows
mod Plain
mod Moves
mod Walks
