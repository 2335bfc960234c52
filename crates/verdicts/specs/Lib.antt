pub mod Program
pub mod Found
pub mod Shown
pub mod Verdict
pub mod Answered
pub mod Opened
pub mod Told
pub mod Printed
