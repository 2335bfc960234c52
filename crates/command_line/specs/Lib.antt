pub mod Numbers
pub mod Words
pub mod CommandLine
pub mod ReplayLine
pub mod Parser
pub mod ReplayParser
pub mod ReplayExamples
