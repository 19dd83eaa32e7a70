pub mod Log
pub mod Records
pub mod Rtp
pub mod RtpReading
