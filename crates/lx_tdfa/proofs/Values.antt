-- The values of tags, in registers and beside places.
pub mod HeldValues
pub mod RegisterWrites
pub mod StepHolds
pub mod StepOps
pub mod StepValues
pub mod SymbolValues
pub mod TagOps
pub mod ValueSteps
pub mod ValuesKept
