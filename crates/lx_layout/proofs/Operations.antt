-- Lists of operations that act one by one.
pub mod OpBounds
pub mod SequenceBounds
