pub mod FrameCrc
pub mod Grammar
pub mod Reading
pub mod RobustOrder
pub mod Rules
pub mod Seen
pub mod Strict
pub mod Values
