pub mod Clauses
pub mod Plans
pub mod Texts
pub mod Verdicts
