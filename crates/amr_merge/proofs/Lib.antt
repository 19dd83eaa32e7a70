pub mod Choice
pub mod Octets
pub mod Parts
pub mod Quality
pub mod Ranks
