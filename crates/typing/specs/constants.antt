pub mod Integers
pub mod Characters
pub mod Types
pub mod Meanings
pub mod Deciding
pub mod Sizes
pub mod Rows
