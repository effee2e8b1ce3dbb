pub mod Links
pub mod Codes
pub mod Load
