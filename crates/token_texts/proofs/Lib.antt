pub mod Gaps
pub mod Layouts
pub mod Spellings
