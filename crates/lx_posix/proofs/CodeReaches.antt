-- The targets that the code finds go on as the segments of the search do.
pub mod ReachLoops
pub mod WayCourses
pub mod WayEvents
pub mod LeafPoints
pub mod PlacesAfter
pub mod StepsFollow
pub mod WaySegments
pub mod ReachesAlike
pub mod KernelLeaves
