-- The POSIX order of trees.
pub mod PosixAhead
pub mod PosixOrder
pub mod PosixShapes
pub mod PosixUnique
