pub mod Entries
pub mod Left
pub mod Form
pub mod Means
pub mod Fits
pub mod Settled
pub mod Told
pub mod Answered
