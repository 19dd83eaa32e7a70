pub mod Cut
pub mod Front
pub mod LogCut
pub mod Shown
