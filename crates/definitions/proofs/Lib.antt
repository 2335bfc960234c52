pub mod Outermost
pub mod Kept
pub mod Words
pub mod Inside
pub mod NameSets
