pub mod Bits
pub mod Words
pub mod Outcome
pub mod Arithmetic
