pub mod Assembled
mod Examples
mod ProgramExamples
pub mod Places
pub mod Taken
pub mod Unfolded
