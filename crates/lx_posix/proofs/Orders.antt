-- The order of cuts with its numbers, by recursion.
pub mod CutOrder
pub mod NumberBetween
pub mod NumberedOrder
pub mod Ordered
pub mod PosixLaws
