-- Trees: which words have one, the least ones, and their scripts.
pub mod Beginnings
pub mod Folds
pub mod Kinds
pub mod LeastScript
pub mod LeastTree
pub mod NoUnits
pub mod OneMatch
pub mod OneRule
pub mod PlainTest
pub mod ShapeOfScript
pub mod SlashEvents
