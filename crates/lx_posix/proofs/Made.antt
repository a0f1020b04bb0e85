-- An automaton is made kernel by kernel.
pub mod ClosuresMade
pub mod Determined
pub mod EdgesMade
pub mod KernelBeginnings
pub mod KeptSets
pub mod NextKernels
pub mod PosixTables
pub mod StatesMade
