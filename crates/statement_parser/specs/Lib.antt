pub mod Follows
pub mod NestsStmt
pub mod Readers
