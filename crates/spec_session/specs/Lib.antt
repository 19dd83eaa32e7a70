pub mod Copies
pub mod Counts
pub mod Packets
pub mod Places
pub mod Quality
pub mod Release
pub mod Session
