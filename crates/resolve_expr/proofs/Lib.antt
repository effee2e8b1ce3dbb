pub mod Keeping
pub mod Ranks
pub mod Chains
pub mod Sole
mod Examples
