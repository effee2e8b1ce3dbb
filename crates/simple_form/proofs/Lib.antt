pub mod Sublists
pub mod Kept
pub mod Apart
