pub mod Beyond
pub mod Spared
pub mod Coarsened
pub mod Marks
pub mod Worked
