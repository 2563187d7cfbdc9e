pub mod Reports
pub mod Answers
pub mod Writing
pub mod ReportOffsets
