pub mod Carrying
pub mod Ordering
pub mod Recordings
pub mod Sessions
pub mod Strangers
