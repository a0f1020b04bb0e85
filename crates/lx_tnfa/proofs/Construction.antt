-- States, shapes and tags, as they are built rule by rule.
pub mod ApartNumbers
pub mod BuiltCopies
pub mod BuiltStates
pub mod FirstStates
pub mod HeldStates
pub mod MemberMoves
pub mod Members
pub mod Membership
pub mod NthLists
pub mod RuleLists
pub mod RuleOwners
pub mod RuleTagLists
pub mod ShapeFacts
pub mod TagBounds
pub mod TagMerges
pub mod WholeTable
