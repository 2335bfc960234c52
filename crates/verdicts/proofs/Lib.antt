pub mod Ascending
pub mod Exactness
pub mod PlacesNamed
pub mod AnswersFound
pub mod Told
pub mod OneProgram
pub mod OneVerdict
pub mod Printed
