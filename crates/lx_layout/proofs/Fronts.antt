-- Layouts that are copies of others.
pub mod RenumberedAccepts
pub mod RenumberedMarks
pub mod RenumberedSizes
pub mod RenumberedEnds
pub mod RenumberedBlocks
pub mod RenumberedFronts
pub mod MovedCodes
pub mod MovedReaders
pub mod MovedPlaces
pub mod MovedFronts
pub mod SuppliedBehind
pub mod EndedAccepts
pub mod CopiedParts
pub mod LikeParts
