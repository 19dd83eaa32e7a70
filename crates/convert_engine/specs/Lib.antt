pub mod Jobs
pub mod BlockSending
pub mod BlockLaws
pub mod Converts
