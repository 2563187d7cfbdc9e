pub mod Canon
pub mod ScanLaws
pub mod Fewest
pub mod SegmentTests
pub mod ModeLaws
