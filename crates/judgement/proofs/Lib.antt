pub mod FirstCall
pub mod Programs
