pub mod Automaton
pub mod Blocks
pub mod Expressions
pub mod Items
pub mod Places
pub mod Ranges
pub mod Sorts
