pub mod Steps
pub mod ItemLaws
pub mod Accepted
pub mod ManyLaws
pub mod EndLaws
pub mod ListedLaws
pub mod ItemsAtLaws
pub mod FaultLaws
