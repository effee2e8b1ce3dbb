pub mod Slots
pub mod Layouts
