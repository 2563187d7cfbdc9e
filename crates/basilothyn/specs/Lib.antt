pub mod Calls
pub mod ReportCalls
