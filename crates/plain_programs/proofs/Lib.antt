pub mod Judged
pub mod ExampleMade
pub mod ExamplePlain
