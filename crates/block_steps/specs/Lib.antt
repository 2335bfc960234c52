pub mod Blocks
pub mod Allocating
pub mod Entering
pub mod Releasing
pub mod ReleaseExamples
