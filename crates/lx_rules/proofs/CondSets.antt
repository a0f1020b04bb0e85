-- Conditions: their lists, their names, and what is kept of each.
pub mod CondNames
pub mod CondNumbers
pub mod ConditionEntries
pub mod CopiedConditions
pub mod ListForms
pub mod ListWords
