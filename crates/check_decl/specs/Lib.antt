pub mod Answers
pub mod BlockRules
pub mod Blocks
