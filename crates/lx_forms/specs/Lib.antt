pub mod Forms
pub mod Lexemes
pub mod Seen
pub mod StepRuns
pub mod StepViews
pub mod Steps
