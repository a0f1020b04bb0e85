pub mod Renumbered
pub mod Repeated
