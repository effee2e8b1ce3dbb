pub mod Words
pub mod Keyword
pub mod Line
pub mod Reading
pub mod Command
