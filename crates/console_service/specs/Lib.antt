pub mod Console
pub mod Cpu
pub mod Run
pub mod Block
pub mod Semantics
pub mod Plain
pub mod Image
pub mod BlockOf
