pub mod Residues
pub mod Modulo
pub mod Examples
pub mod Inverse
pub mod Quotients
