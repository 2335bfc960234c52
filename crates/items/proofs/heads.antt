pub mod HeadDeclared
pub mod HeadFaults
pub mod HeadMarked
pub mod HeadRows
pub mod HeadTaken
pub mod HeadWalked
