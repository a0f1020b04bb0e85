pub mod Buffers
pub mod MemorySources
pub mod PaddedBytes
pub mod StreamUnits
pub mod StreamWindows
