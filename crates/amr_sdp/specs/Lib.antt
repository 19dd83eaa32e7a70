pub mod Answers
pub mod Offers
pub mod Texts
pub mod Types
