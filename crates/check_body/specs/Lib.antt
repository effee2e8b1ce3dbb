pub mod StatementRules
pub mod Statements
pub mod Steps
