-- Operations that no walk reads are cut.
pub mod CutAutomata
pub mod CutLive
pub mod CutSteps
pub mod FewerOps
pub mod KeptEdges
pub mod KeptOps
pub mod KeptSteps
pub mod KeptUsages
pub mod OnceWritten
pub mod ReadLists
pub mod UnsetRegisters
