pub mod Accesses
pub mod ExpressionRules
pub mod Expressions
pub mod Values
