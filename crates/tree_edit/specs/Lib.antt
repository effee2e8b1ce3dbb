pub mod Edited
pub mod Place
