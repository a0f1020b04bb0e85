-- The numbers of neighbours, read off two ways by moves.
pub mod LeafDigits
pub mod NumbersBetween
pub mod WaySymbols
pub mod WaysCompared
pub mod ForkedWays
pub mod FoundNumbers
pub mod WaySpots
