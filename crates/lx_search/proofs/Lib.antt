pub mod EdgeFronts
pub mod EdgeSteps
pub mod Scopes
pub mod SearchSteps
