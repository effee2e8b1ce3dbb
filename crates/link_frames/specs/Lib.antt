pub mod Frames
pub mod Fits
pub mod Laws
