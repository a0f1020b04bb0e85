pub mod EqualValues
pub mod Images
pub mod RenumberedByNothing
pub mod RenumberedReads
pub mod RenumberedRules
pub mod RenumberedRuns
pub mod RenumberedStates
pub mod SameExpressions
