pub mod Layout4s
pub mod Answers
