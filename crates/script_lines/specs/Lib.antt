pub mod Front
pub mod Took
