pub mod Stripes
pub mod Mirrors
pub mod Routes
pub mod Rights
pub mod Answers
