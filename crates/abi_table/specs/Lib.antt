pub mod TableRecords
pub mod Answers
