pub mod Warnings
pub mod Meanings
pub mod Playing
pub mod OfItems
pub mod Exactly
