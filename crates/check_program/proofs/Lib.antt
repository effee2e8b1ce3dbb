pub mod Built
pub mod Joined
pub mod OwnRows
pub mod Viewed
pub mod Walked
