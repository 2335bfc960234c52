pub mod Enclosed
pub mod KindsAsked
pub mod Levels
pub mod Parts
pub mod Scopes
pub mod ValuesTaken
