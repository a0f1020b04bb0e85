pub mod CallPlan
pub mod Counts
pub mod Held
pub mod MemoryFiles
pub mod MemorySink
pub mod Reading
pub mod Taking
