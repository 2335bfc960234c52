pub mod Numbers
pub mod Constructs
pub mod OpenBrackets
pub mod Layout
pub mod Finding
pub mod LayoutFinding
