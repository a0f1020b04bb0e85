-- Each block of a layout with a supply of units is one of its scanner.
pub mod LedCodes
pub mod LedTrees
pub mod LedReaders
pub mod LedClasses
pub mod LedWays
pub mod LedEnds
pub mod LedStates
pub mod LedEntries
pub mod FoundStates
pub mod MetPlaces
pub mod LiveLayouts
pub mod LivePieces
