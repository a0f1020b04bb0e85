pub mod Trees
pub mod Walks
pub mod KernelCuts
pub mod PartTables
pub mod PosixTrees
pub mod WorkedExamples
