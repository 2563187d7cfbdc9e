pub mod SlotLaws
pub mod StoreLaws
pub mod LayLaws
