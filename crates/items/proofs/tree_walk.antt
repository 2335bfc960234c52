mod Levels
mod NothingElse
