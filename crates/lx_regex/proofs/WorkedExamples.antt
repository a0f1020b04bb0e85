-- The worked examples.
pub mod Grouped
pub mod Worked
pub mod WorkedKernels
pub mod WorkedMatches
