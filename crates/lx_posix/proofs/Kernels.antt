-- Kernels with their numbers from one unit to the next.
pub mod AlikeKernels
pub mod ClosedKernels
pub mod CountedKernels
pub mod FirstUnit
pub mod KernelFromWalks
pub mod KernelStep
pub mod ListedKernels
pub mod PairedLists
pub mod PosixKernels
pub mod SortedPlaces
pub mod WholeStep
