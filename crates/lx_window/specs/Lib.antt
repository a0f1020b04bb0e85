pub mod Ahead
pub mod Buffers
pub mod Counts
pub mod MemorySource
pub mod Refilling
pub mod Units
pub mod Windows
pub mod WindowView
