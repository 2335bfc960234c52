pub mod Names
pub mod Scopes
pub mod Kept
pub mod Environment
pub mod Linkage
pub mod BuiltIns
pub mod BuiltInRows
pub mod Bounds
