pub mod GeneratedRules
pub mod Sources
