pub mod Answers
pub mod Examples
pub mod Format
pub mod Reading
pub mod Run
pub mod Written
