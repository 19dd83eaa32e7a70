pub mod Blocks
pub mod Cells
pub mod First
pub mod Frames
pub mod Memory
pub mod Profiles
pub mod Tables
pub mod Steps
