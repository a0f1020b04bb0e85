-- Which registers are live, and how they are found.
pub mod ArrowLists
pub mod FirstItems
pub mod FormedReads
pub mod GrownLists
pub mod HeldBounds
pub mod ItemSearch
pub mod ItemTests
pub mod LiveBehind
pub mod LiveItems
pub mod PairSearch
pub mod Pairings
pub mod PriorItems
pub mod ReadEffects
pub mod ReaderSteps
pub mod RightItems
pub mod UsageOrder
