-- The ends of rules, and a piece as a scanner of them.
pub mod EndCodes
pub mod EndPlaces
pub mod EndingLoops
pub mod FirstPlaces
pub mod NotedPlaces
pub mod RuleBlocks
pub mod RuleEnds
pub mod SwitchCases
