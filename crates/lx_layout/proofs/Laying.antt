-- Layouts with a supply of units, as they are laid block by block.
pub mod FallRounds
pub mod HaltMarks
pub mod TreeWays
pub mod Planned
pub mod FirstAccepts
pub mod StateBlocks
pub mod Numbered
pub mod FallbackLoops
pub mod LaidWhole
pub mod ToldEnds
pub mod PartsBehind
pub mod PieceFields
