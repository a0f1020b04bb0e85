-- The code of the search over points and levels lists what its definition lists.
pub mod HeldMoves
pub mod FoundPaths
pub mod FewMoves
pub mod FewStates
pub mod PointNumbers
pub mod DroppedSteps
pub mod LevelStack
pub mod LevelTrail
pub mod KernelStarts
