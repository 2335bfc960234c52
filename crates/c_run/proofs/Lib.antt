mod ByCondition
mod CallsMade
pub mod DefinedFunctions
mod Leaving
mod MakingSteps
mod PlainSteps
mod RunsOn
pub mod NoneLeft
pub mod Rooms
pub mod RunStarts
pub mod StepsLeft
pub mod WholeRuns
