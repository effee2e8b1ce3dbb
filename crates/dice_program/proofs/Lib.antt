pub mod Pieces
pub mod Commands
pub mod Serving
pub mod Turns
pub mod Kept
pub mod Exits
pub mod Whole
