pub mod Filling
pub mod Copies
pub mod Copying
pub mod AnyCopies
pub mod Places
pub mod CopyExamples
