pub mod Checked
pub mod Named
pub mod Needed
pub mod Placed
pub mod Refusals
pub mod Steps
pub mod Walk
