pub mod Faults
pub mod Regions
pub mod Strings
pub mod Typing
