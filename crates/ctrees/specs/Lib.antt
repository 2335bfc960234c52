pub mod Weight
pub mod Levels
pub mod Expressions
pub mod Numbers
