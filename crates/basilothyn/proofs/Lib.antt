pub mod CallLaws
pub mod RecordUnchanged
pub mod RecordDemand
pub mod WriteReportLaws
