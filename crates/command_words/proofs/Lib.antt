pub mod Answering
pub mod Formats
pub mod Listing
pub mod Modes
pub mod Numbers
pub mod Pairs
pub mod Taken
pub mod Trying
