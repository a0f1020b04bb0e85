-- Operations that empty a register which holds nothing are left out.
pub mod KeptLists
pub mod KeptAutomata
pub mod KeptStates
