pub mod Held
pub mod Packets
pub mod Sender
pub mod Sends
pub mod Single
