pub mod Size
pub mod Value
pub mod Conversion
pub mod Computing
pub mod Comparing
pub mod Laws
pub mod Examples
