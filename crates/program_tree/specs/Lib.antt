pub mod Entries
pub mod Found
pub mod Lookups
pub mod Named
pub mod Search
