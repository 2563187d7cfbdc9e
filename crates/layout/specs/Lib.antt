pub mod Layouts
pub mod Starts
pub mod Answers
