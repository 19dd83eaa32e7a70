pub mod Filled
pub mod Replied
