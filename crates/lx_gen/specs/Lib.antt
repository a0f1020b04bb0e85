pub mod Automata
pub mod Generated
pub mod Seen
