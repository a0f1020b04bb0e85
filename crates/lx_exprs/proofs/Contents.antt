-- What is kept of what is read.
pub mod KindContents
pub mod LeafContents
pub mod LeafSteps
pub mod MemberCopies
pub mod OperandValues
pub mod TermsBehind
pub mod ValueContents
pub mod ValueLimits
