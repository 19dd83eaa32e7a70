pub mod Fmtp
pub mod Gathered
pub mod Given
pub mod Listed
pub mod Named
pub mod Parts
pub mod Places
pub mod Readings
