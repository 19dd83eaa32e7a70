pub mod Attributes
pub mod Formats
pub mod Lines
pub mod Media
pub mod Section
pub mod Told
