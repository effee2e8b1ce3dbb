pub mod Follows
pub mod Nests
pub mod Readers
