-- Automata by other names are translations.
pub mod FittingSteps
pub mod KeptByLists
pub mod KeptLists
pub mod NameMembers
pub mod OrderedOps
pub mod Pairs
pub mod RenamedAutomata
pub mod RenamedCounts
pub mod RenamedEffects
pub mod RenamedInterference
pub mod RenamedReads
pub mod RenamedWalks
pub mod Shapes
pub mod TestedTranslations
