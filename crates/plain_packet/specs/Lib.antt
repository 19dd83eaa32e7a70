pub mod Plain
pub mod Viewed
