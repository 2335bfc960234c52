pub mod Linked
pub mod Standing
pub mod Folded
pub mod Holders
pub mod Candidates
pub mod Foldable
pub mod Worked
