pub mod Demands
pub mod Parts
