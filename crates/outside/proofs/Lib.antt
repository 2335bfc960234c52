pub mod Appended
pub mod Answer
pub mod Known
pub mod Opened
pub mod Places
