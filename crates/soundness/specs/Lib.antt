pub mod Sound
pub mod AnyTable
pub mod Validations
