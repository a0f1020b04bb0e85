pub mod Cover
pub mod Cursors
pub mod Machine
pub mod Matches
pub mod Outcomes
pub mod Progress
pub mod Registers
