pub mod Plans
pub mod Returned
pub mod Shared
pub mod Texts
