pub mod Agreeing
pub mod CopiesBelow
pub mod CopySequences
pub mod OpParts
pub mod SequenceExamples
pub mod Sequentialized
pub mod WaitingCopies
