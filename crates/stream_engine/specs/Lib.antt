pub mod Jobs
pub mod Sends
pub mod Reading
pub mod Progress
pub mod Held
