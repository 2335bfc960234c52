pub mod Named
pub mod Parameters
pub mod Taken
