pub mod Moves
pub mod Integers
