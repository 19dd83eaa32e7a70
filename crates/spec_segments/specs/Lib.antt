pub mod Copies
pub mod Counts
pub mod Release
pub mod Segments
