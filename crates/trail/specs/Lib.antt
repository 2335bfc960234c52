pub mod Seen
pub mod Analysis
pub mod Trail
pub mod Work
pub mod Theorems
pub mod Witness
