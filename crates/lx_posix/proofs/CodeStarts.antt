-- The starts that the code finds are those of the search, in order.
pub mod Waiting
pub mod SweptStarts
pub mod SweptOrder
pub mod RanksByRule
pub mod SmallDepths
pub mod ClosedPlaces
