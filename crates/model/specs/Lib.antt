pub mod Model
pub mod SlotsShown
pub mod Claim
pub mod Invariants
pub mod Cases
pub mod StandIns
