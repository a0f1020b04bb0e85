-- The end of a word: which cut and which walk without a unit the best tree has.
pub mod EndOfWord
pub mod FirstAccept
pub mod PathsPart
