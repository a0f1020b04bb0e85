-- What a layout with a supply of units promises of its scanner: its checks, the ends of its rules, and how often a unit is tested.
pub mod CheckedCodes
pub mod CheckedLayouts
pub mod InnerCodes
pub mod EndCodes
pub mod RulePlaces
pub mod EndedLayouts
pub mod TestSorts
pub mod FewSteps
pub mod CalmCodes
pub mod CalmEnds
pub mod CalmReaders
pub mod StoredBlocks
pub mod LayoutReaders
pub mod CalmWays
pub mod CalmLayouts
pub mod FewLayouts
pub mod UncheckedStarts
