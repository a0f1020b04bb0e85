-- Which states, parts, numbers and tags are those of which rule.
pub mod ApartNumbers
pub mod KeptRules
pub mod OwnedEnds
pub mod RuleStates
pub mod RuleSteps
pub mod RuleWalks
pub mod StartUnreached
pub mod StateOrder
pub mod StepPlaces
pub mod WithinStates
