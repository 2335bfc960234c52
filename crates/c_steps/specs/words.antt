pub mod Compared
pub mod Integers
