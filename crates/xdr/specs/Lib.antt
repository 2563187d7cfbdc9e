pub mod Parsed
pub mod Items
pub mod CountedLists
pub mod Answers
