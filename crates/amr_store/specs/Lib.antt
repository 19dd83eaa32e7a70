pub mod SinkLaws
pub mod Written
pub mod Sights
pub mod Reading
pub mod Telling
pub mod Seeking
pub mod Passing
