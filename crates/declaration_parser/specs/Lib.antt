pub mod Follows
pub mod NestsTypes
pub mod Readers
