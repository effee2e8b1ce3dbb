pub mod Ends
mod Examples
pub mod Flows
mod Layers
mod Sums
mod Tables
mod Turns
