pub mod Steps
pub mod Came
pub mod Bounds
pub mod Heard
