pub mod Host
pub mod Jobs
pub mod Noted
pub mod Runs
pub mod Statuses
