pub mod Longest
pub mod Progress
pub mod Spans
pub mod Unread
