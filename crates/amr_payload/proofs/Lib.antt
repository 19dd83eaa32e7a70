pub mod Again
pub mod Canonical
pub mod Carried
pub mod Comparing
pub mod OctetText
pub mod Strictly
pub mod Viewing
