pub mod Steps
pub mod Sound
pub mod Real
pub mod Grow
pub mod Witness
pub mod NullFlow
pub mod NullWitness
pub mod NullTold
