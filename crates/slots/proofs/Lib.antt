pub mod ClearLaws
pub mod ChoiceLaws
pub mod SearchLaws
