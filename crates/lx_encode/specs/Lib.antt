pub mod Folding
pub mod Graph
pub mod Layers
pub mod Policy
pub mod Runs
pub mod Starts
pub mod Table
pub mod Units
