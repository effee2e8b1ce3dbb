pub mod Chains
pub mod Changed
pub mod Layers
pub mod Opened
pub mod Targets
