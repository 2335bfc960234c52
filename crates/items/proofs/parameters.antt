pub mod EachParameter
pub mod FunctionNames
pub mod NamesTaken
pub mod OneParameter
pub mod OtherFunctions
pub mod ParametersTaken
pub mod TypesAlike
pub mod Walk
