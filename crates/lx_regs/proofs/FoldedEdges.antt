-- Automata with one edge for each class, and those with all edges.
pub mod UnfoldedRuns
pub mod UnfoldedShapes
pub mod UnfoldedStates
pub mod UnfoldedWalks
pub mod FoldSteps
