pub mod Further
pub mod StmtLevels
pub mod StmtRules
