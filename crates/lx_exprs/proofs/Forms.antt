-- Forms of expressions: their steps, their checks, and what they mean.
pub mod ClassForms
pub mod Differences
pub mod ExpressionRanges
pub mod ExpressionSteps
pub mod FaultPlaces
pub mod FormFits
pub mod FormRuns
pub mod FormVerdicts
pub mod MeaningFits
pub mod NoGroups
pub mod OneCheck
pub mod StepOrder
