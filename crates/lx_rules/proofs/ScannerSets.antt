-- Scanners: their rules, their limits, and that they can be built.
pub mod BuildableMeanings
pub mod BuiltScanners
pub mod BuiltTerms
pub mod CopiedScanners
pub mod KeptScanners
pub mod LinkedScanners
pub mod ScannerFits
pub mod ScannerLimits
