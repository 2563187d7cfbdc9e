pub mod Faults
pub mod BodyRefusals
pub mod BodySizes
pub mod EventRefusals
pub mod EndToEnd
pub mod RightsAnswered
