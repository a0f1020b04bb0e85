-- Names and numbers of tags.
pub mod DefinitionLists
pub mod SharedNames
pub mod TagFaults
pub mod TagIndexes
pub mod TagNumbers
pub mod TermTags
