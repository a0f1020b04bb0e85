-- Leaves: their starts, residuals and numbers, and the cuts that stand in them.
pub mod ClassLists
pub mod ClassStarts
pub mod CutPlaces
pub mod FormedLeaves
pub mod FrontLeaves
pub mod LeafChoices
pub mod LeafGraphs
pub mod LeafNumbering
pub mod LeafNumbers
pub mod LeafRests
pub mod LeafStarts
pub mod OnePlace
pub mod PlaceSteps
pub mod RestPlaces
pub mod TableLeaves
