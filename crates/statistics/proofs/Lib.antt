pub mod LatencyLaws
pub mod PlaceLaws
pub mod StatisticStepLaws
pub mod StatisticLaws
pub mod StatisticStands
pub mod StatisticBack
pub mod EncodeLaws
pub mod PutLaws
