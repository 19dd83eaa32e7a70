pub mod Blocks
pub mod Delivery
pub mod Draws
pub mod Trials
