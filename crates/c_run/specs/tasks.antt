pub mod Loops
pub mod Room
pub mod Structs
