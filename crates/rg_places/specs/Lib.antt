pub mod PointValues
pub mod RegionPlaces
pub mod Steps
