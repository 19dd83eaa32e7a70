pub mod StorageFile
pub mod StorageGrammar
pub mod StorageReading
