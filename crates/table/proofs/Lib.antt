pub mod PushLists
pub mod BuilderLaws
pub mod ChangeLaws
pub mod TableLaws
