pub mod Program
pub mod Judged
pub mod Shown
pub mod Answered
pub mod Around
pub mod Opened
pub mod Told
