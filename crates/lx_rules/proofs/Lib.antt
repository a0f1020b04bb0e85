pub mod Blocks
pub mod CondSets
pub mod Rules
pub mod ScannerSets
pub mod Spellings
pub mod ZippedLists
