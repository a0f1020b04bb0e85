-- Rules: their heads, their meanings, and how they are kept.
pub mod ContextExprs
pub mod ContextSteps
pub mod CopiedRules
pub mod EndRules
pub mod FirstRules
pub mod FittingRules
pub mod HeadSteps
pub mod KeptRules
pub mod NamedRules
pub mod NamedTags
pub mod ReadContexts
pub mod RuleFits
pub mod RuleItems
pub mod RuleLists
pub mod RuleNumbers
pub mod RuleSteps
pub mod TakenRules
