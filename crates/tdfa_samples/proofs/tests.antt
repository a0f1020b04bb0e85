pub mod MarkLists
pub mod OneRuleLists
pub mod Starts
