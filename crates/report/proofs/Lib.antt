pub mod ReportLaws
pub mod EntryLaws
pub mod StoringLaws
pub mod WrittenLaws
pub mod ReadBack
pub mod ReturnRoundTrip
pub mod ReturnLaws
