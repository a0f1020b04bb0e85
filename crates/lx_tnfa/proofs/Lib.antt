pub mod Leaves
pub mod Searching
pub mod Liveness
pub mod Construction
