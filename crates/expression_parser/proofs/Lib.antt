pub mod ExprLevels
pub mod ExprRules
pub mod Levels
