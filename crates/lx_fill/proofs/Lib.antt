pub mod Graphs
pub mod LongestWalks
pub mod NumbersChecked
pub mod ReachedCycles
pub mod SearchSteps
