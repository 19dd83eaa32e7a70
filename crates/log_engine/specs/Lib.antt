pub mod Progress
pub mod Puts
pub mod Run
pub mod Tray
pub mod Turns
pub use Rattle.spec_packet.specs.Log
