pub mod CutOperations
pub mod FoldedEdges
pub mod LiveRegisters
pub mod NeedlessNulls
pub mod SharedNames
pub mod Translations
