pub mod RecordCounts
pub mod RecordMeaning
pub mod Recording
