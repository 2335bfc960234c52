pub mod Tables
pub mod Stacks
pub mod KeptRight
pub mod Visible
pub mod NearScopes
pub mod Worked
pub mod Linkages
pub mod Bounds
