pub mod Converting
pub mod Streaming
