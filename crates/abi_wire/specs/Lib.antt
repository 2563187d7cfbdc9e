pub mod LayoutResults
pub mod DeviceResults
pub mod BindResults
pub mod ReportResults
pub mod StatisticsResults
