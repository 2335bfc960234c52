pub mod Around
pub mod Told
pub mod Runs
pub mod OneVerdict
pub mod Files
pub mod Opened
