-- What the loops of the code build.
pub mod CutUnits
pub mod EdgeLoops
pub mod EdgeSteps
pub mod EdgesMade
pub mod JoinedEdges
pub mod ListSets
pub mod OpBounds
pub mod OpLists
pub mod PlaceLists
pub mod PlaceSets
pub mod RegisterBounds
pub mod StateLists
pub mod StatesMade
pub mod StepLoops
pub mod Stops
