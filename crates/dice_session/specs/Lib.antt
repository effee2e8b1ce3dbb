pub mod Readings
pub mod World
pub mod Represents
pub mod Simulates
pub mod Places
pub mod SessionOf
pub mod Progress
