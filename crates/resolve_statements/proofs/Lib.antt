mod Examples
mod Tabled
pub mod Arguments
pub mod Begins
pub mod Fitting
pub mod Gates
pub mod Heads
pub mod Keeping
pub mod Labelled
pub mod Layers
pub mod Opened
pub mod Over
pub mod Pushing
pub mod Rows
pub mod Targets
