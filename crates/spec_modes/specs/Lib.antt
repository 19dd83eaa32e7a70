pub mod Desk
pub mod ModeSets
pub mod Requests
