pub mod BodyRules
pub mod Layouts
pub mod Parts
pub mod Programs
pub mod Resolution
