pub mod Way
pub mod Go
