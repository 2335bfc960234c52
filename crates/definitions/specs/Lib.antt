pub mod Roles
pub mod Rows
pub mod Defined
