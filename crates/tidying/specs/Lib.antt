pub mod Held
pub mod Tidied
pub mod Marks
pub mod Fits
pub mod Tidy
