-- The automaton of a table of kernels is that of the rules.
pub mod Courses
pub mod Determined
pub mod GreedyTables
pub mod KeptRules
pub mod SameAutomata
pub mod TableAutomata
pub mod TableBegins
pub mod TableBest
pub mod TableBounds
pub mod TableFormed
pub mod TableKept
pub mod TableKernels
pub mod TableRuns
pub mod TableWords
