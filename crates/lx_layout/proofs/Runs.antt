-- Blocks that serve an automaton run as it does.
pub mod BestFronts
pub mod CarriedExamples
pub mod CarriedMatches
pub mod CarriedRuns
pub mod CarriedStates
pub mod CarriedSteps
pub mod CheckedCarried
pub mod DottedCarried
pub mod EndedCarried
pub mod Matches
pub mod OperationSteps
pub mod PairsCarried
pub mod PartialRuns
pub mod SlashValues
pub mod TestedRuns
pub mod UnitsLeft
