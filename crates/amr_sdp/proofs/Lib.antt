pub mod Going
pub mod AllWanted
pub mod OfType
pub mod Trying
pub mod Texts
