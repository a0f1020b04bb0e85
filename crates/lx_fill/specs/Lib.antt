pub mod Checks
pub mod Longest
pub mod Search
