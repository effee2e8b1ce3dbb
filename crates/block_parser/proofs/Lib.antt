pub mod BlockLevels
pub mod BlockRules
pub mod Further
