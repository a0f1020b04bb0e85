-- Scanners one behind another are a piece of scanners.
pub mod AskedFew
pub mod EachPart
pub mod EachScanner
pub mod EnoughChecks
pub mod FitParts
pub mod OneScanner
pub mod PartActions
pub mod PartEntries
pub mod ScannerEntries
pub mod ShortHistories
pub mod TableTags
pub mod TableSets
pub mod StoredRefills
pub mod WholePieces
