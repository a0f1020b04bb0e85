pub mod ForgettingCodes
pub mod ForgettingLayouts
pub mod ForgettingSources
pub mod ForgettingTold
