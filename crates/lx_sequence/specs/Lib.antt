pub mod CopyOps
pub mod ParallelCopies
pub mod SequenceExamples
pub mod Turns
pub mod WaitingCopies
