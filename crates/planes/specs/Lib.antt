pub mod Classes
pub mod Kept
pub mod Lanes
