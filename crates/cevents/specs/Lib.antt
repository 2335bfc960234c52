pub mod Building
pub mod Workshop
