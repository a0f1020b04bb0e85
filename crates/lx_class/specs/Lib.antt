pub mod Bounds
pub mod Ranges
