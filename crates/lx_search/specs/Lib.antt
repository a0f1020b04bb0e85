pub mod Found
pub mod Progress
pub mod Scopes
