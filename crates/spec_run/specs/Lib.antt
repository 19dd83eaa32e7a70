pub mod Flows
pub mod LogRuns
pub mod Meanings
