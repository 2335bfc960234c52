pub mod Fronts
pub mod Lanes
pub mod Made
pub mod Pairs
pub mod Ranges
