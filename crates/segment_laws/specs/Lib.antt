pub mod Judged
pub mod Kept
pub mod One
pub mod Placed
