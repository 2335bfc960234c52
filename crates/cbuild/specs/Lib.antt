pub mod ItemsMade
