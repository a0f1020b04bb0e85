-- One search from all places over states and levels lists the first segments.
pub mod LevelGraphs
pub mod StartOrder
pub mod FoundWays
pub mod WayOrder
pub mod PickOrder
pub mod ProgramSearch
pub mod SameSegments
