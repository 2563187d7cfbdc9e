pub mod RecordLaws
pub mod TableRoundTrip
