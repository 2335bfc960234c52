mod Answered
mod Behind
mod Carrying
mod Holding
mod ItemSteps
mod Named
mod Numbered
pub mod OneAnswer
mod Placed
mod PlacesRead
mod RefusedItems
mod RefusedNames
mod RefusedNodes
mod RefusedParts
mod Refusing
mod Spans
