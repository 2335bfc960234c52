pub mod Kind
pub mod Construct
pub mod Report
pub mod ReplayReport
