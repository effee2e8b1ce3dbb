pub mod BlockNames
pub mod Blocks
pub mod Counted
pub mod Numbers
pub mod StmtNames
