-- The order by recursion is the one by lengths and positions.
pub mod CountedPositions
pub mod NumbersOfCuts
