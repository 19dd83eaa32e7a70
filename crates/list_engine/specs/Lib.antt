pub mod Going
pub mod Jobs
pub mod Lines
pub mod Payloads
pub mod Records
