-- Cuts and kernels of words, and the lists of places that are computed for them.
pub mod AcceptedTrees
pub mod CutLists
pub mod CutRuns
pub mod DistinctLists
pub mod EndingRules
pub mod FewKernels
pub mod KernelBehind
pub mod KernelSteps
pub mod KernelWords
pub mod KernelsListed
pub mod ManyKernels
pub mod OrderedLists
pub mod ProgramAccepts
pub mod ProgramKernels
pub mod RunCuts
pub mod RunOrder
pub mod RunSteps
