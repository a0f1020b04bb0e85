-- Which blocks a layout has, where they stand, and that they serve the automaton.
pub mod AcceptLoops
pub mod BlockLoops
pub mod CodesInBlocks
pub mod FirstAccepts
pub mod LayoutLengths
pub mod Questions
pub mod TreeCodes
pub mod TreeExamples
