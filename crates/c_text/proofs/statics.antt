pub mod ByForm
pub mod EachNoted
pub mod InFront
pub mod Static
pub mod Walking
pub mod Weights
