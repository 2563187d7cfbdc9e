pub mod Versions
pub mod Netids
pub mod Addresses
pub mod Bodies
pub mod Answers
