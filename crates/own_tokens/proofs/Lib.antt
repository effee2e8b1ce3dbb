pub mod DeclWritten
pub mod EventTokens
pub mod ExprTrees
pub mod ExprWritten
pub mod ProgramWritten
pub mod Written
