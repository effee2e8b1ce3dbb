pub mod Events
pub mod Layout
pub mod Listing
