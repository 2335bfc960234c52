pub mod Constants
pub mod Filling
pub mod InitLevels
pub mod Judged
pub mod Slots
pub mod Stored
pub mod Unplaced
