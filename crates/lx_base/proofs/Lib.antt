pub mod Allowed
pub mod Deciding
pub mod Fronts
