pub mod Seen
pub mod EdgeSteps
pub mod Laws
