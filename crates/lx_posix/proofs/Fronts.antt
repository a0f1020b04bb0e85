-- Fronts of scripts: where two part, and what is open behind them.
pub mod AlikeFronts
pub mod FrontsPart
pub mod LesserWalks
pub mod OutermostOpen
pub mod PartDepth
pub mod SameFront
