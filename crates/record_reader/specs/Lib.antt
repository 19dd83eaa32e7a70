pub mod Record
pub mod Reading
pub mod Lent
pub mod Cause
pub use Rattle.spec_packet.specs.Records
