pub mod Checks
pub mod Comparing
pub mod Octets
pub mod Taken
