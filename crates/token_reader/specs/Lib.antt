pub mod Answers
pub mod Faults
pub mod Readers
pub mod Tables
