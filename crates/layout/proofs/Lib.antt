pub mod FrontLaws
pub mod LayoutLaws
pub mod StartLaws
pub mod StartTableLaws
