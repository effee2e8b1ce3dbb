pub mod Compose
pub mod Jumps
pub mod Ops
pub mod Texts
pub mod Words
pub mod Stretch
pub mod Settle
