pub mod Command
pub mod Line
pub mod Points
pub mod Options
pub mod PrintedNames
