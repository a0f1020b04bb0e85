-- Searches that keep several walks for a state: which walks may be dropped.
pub mod DroppedBranches
pub mod DroppedWalks
pub mod LevelOrder
pub mod LevelSearches
pub mod LevelledWalks
pub mod PlaceDepths
pub mod Shortcuts
pub mod StateDepths
pub mod StatePaths
