pub mod Going
pub mod Hearing
pub mod Jobs
pub mod Listening
pub mod Tallies
