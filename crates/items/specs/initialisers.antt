pub mod Constants
pub mod Filled
pub mod Storing
pub mod Surplus
