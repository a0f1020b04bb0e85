-- Registers that do not interfere share names, by the colours of a graph.
pub mod AlteredRegisters
pub mod ColourSteps
pub mod GraphLists
pub mod GraphSteps
pub mod GroupLists
pub mod InterferenceSteps
pub mod KeyTests
pub mod Marks
pub mod Merges
pub mod NoteSteps
pub mod SharedLists
pub mod TightNames
