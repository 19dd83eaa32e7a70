pub mod Gone
pub mod Places
pub mod Prefix
pub mod Sessions
