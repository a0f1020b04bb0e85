-- States from which an end can be reached.
pub mod LiveMarks
pub mod LiveWalks
