pub mod WordKernels
pub mod Walks
pub mod Rules
pub mod Values
pub mod Tables
pub mod Loops
pub mod LeastWords
