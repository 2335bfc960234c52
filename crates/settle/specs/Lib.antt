pub mod Settled
pub mod Parted
pub mod Laws
