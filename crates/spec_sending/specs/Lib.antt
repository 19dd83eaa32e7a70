pub mod Groups
pub mod Left
pub mod Plans
pub mod Portions
pub mod Sending
