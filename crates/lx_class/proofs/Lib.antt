pub mod Holes
pub mod Joining
pub mod Law
pub mod Places
pub mod RangeLists
pub mod Unions
