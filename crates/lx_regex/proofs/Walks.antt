-- Walks through the automaton of a rule list, and the trees that they go through.
pub mod Candidates
pub mod Clear
pub mod Exchange
pub mod Fronts
pub mod PlainWalk
pub mod Readings
pub mod Scripts
pub mod TreeWalk
pub mod WalkTree
pub mod WholeWalk
