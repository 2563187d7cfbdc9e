pub mod LookupLaws
pub mod NamedLaws
