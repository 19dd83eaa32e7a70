pub mod Bits
pub mod Layout
pub mod Runs
pub mod Written
pub mod Shifted
