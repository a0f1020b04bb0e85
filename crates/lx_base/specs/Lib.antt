pub mod Allowed
pub mod Letters
pub mod Message
pub mod Names
pub mod Places
pub mod Spelling
pub mod Text
