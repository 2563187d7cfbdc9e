pub mod NumberLaws
pub mod SameLaws
pub mod ZeroLaws
pub mod BytesAtLaws
pub mod StoredLaws
pub mod WidthLaws
