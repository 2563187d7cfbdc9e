pub mod Edits
pub mod Builders
