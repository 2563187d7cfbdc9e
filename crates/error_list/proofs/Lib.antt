pub mod FirstEntries
pub mod WireEntries
