-- A piece in which a layout stands is valid, and each action stands in it once.
pub mod EachElement
pub mod LayoutFits
pub mod LayoutLaws
