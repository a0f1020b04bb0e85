-- Pieces whose blocks serve an automaton carry it.
pub mod GivenValues
pub mod MachineSteps
pub mod RunStates
pub mod SavedAccepts
pub mod ServedEdges
pub mod ServedEnds
pub mod ServedReaders
pub mod SilentTraces
pub mod SuppliedCarried
