pub mod Latencies
pub mod Statistics
pub mod Inside
pub mod StatisticChecks
pub mod StatisticBytes
pub mod Encoding
