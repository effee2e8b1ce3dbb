mod Examples
pub mod Settles
