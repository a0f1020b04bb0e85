pub mod BlockParts
pub mod Cut
pub mod ValidParts
pub mod Fitted
pub mod Marks
pub mod Refusals
pub mod UnitCases
