pub mod Entered
pub mod Graph
pub mod Stops
pub mod Warnings
