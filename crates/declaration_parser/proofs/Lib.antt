pub mod DeclLevels
pub mod DeclRules
pub mod Further
