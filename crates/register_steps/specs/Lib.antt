pub mod Lines
pub mod Gaining
pub mod States
pub mod Steps
pub mod Cases
