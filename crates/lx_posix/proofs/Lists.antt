-- Kernels as lists that are computed unit by unit.
pub mod AllPaths
pub mod AllSegments
pub mod Comparisons
pub mod CountedRanks
pub mod FirstOnes
pub mod InOrder
pub mod PlacesWeighed
pub mod ProgramLists
pub mod RankedAccepts
pub mod RankedAlike
pub mod RankedCuts
pub mod RankedKernels
pub mod RankedNumbers
pub mod RankedSteps
pub mod RankedValues
