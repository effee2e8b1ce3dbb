pub mod Ends
pub mod Entries
pub mod Kept
pub mod Script
pub mod Status
pub mod Taking
pub mod Top
pub mod Turns
