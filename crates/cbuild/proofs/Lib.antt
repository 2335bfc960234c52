pub mod ItemsAlone
pub mod Made
