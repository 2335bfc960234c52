pub mod Covers
pub mod Found
pub mod Checked
pub mod Example
pub mod Quick
pub mod Cells
