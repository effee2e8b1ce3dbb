pub mod Stages
pub mod Good
pub mod Go
pub mod After
pub mod Loaded
pub mod Sessions
pub mod Drafts
mod Examples
