-- The list of the parts of rules, and where each part stands.
pub mod OwnParts
pub mod PartCount
pub mod PartLists
pub mod PartSizes
pub mod PartStates
pub mod Rows
pub mod RuleParts
