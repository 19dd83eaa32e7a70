pub mod Places
pub mod Portioned
pub mod Sound
pub mod Staying
