pub mod Constants
pub mod Headings
pub mod TypeRules
pub mod TypeTexts
