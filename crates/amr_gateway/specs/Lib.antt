pub mod Jobs
pub mod Ordering
pub mod Returning
pub mod Strangers
pub mod WorkedOff
pub mod Wrote
