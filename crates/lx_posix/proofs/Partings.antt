-- Where two scripts part at a choice, and what each keeps of the positions that are open there.
pub mod ForkOfParting
pub mod Forks
pub mod LeastNumber
pub mod Partings
