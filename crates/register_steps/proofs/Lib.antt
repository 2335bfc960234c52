pub mod Moved
pub mod Worked
pub mod Gained
pub mod Right
pub mod Simple
pub mod Shifted
pub mod Computed
pub mod Ready
