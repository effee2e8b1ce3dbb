pub mod Shapes
pub mod Plain
pub mod Charge
pub mod Control
pub mod Views
pub mod Lookups
