pub mod Appended
mod Slices
mod SignedValue
