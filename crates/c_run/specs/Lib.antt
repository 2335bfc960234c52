pub mod Started
pub mod Stepped
pub mod tasks
