pub mod BindingLaws
pub mod RefusalLaws
