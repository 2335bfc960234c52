pub mod Programs
pub mod Example
