-- How kernels of words go on as lists, and the tables that hold them as the code keeps them.
pub mod CountedTables
pub mod PlaceRules
pub mod PosixCourse
