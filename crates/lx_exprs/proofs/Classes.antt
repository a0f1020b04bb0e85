-- Classes of code points.
pub mod BoundedSets
pub mod ClassFits
pub mod ClassUnions
pub mod PointSets
