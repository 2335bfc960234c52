pub mod Numbers
pub mod Numerals
pub mod Letters
pub mod Suffixes
pub mod Integers
pub mod Exact
pub mod Sizes
pub mod Worked
