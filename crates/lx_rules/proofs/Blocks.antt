-- Blocks: their items, their checks, and what they resolve to.
pub mod BlockVerdicts
pub mod CheckSteps
pub mod FaultPlaces
pub mod FinishingSteps
pub mod ItemFits
pub mod ItemRuns
pub mod ItemSteps
pub mod ItemVerdicts
pub mod OfFormatThree
pub mod OneItem
pub mod OpenedBlocks
pub mod Openings
pub mod Readiness
pub mod WellFormedBlocks
