pub mod Bodies
pub mod Forms
pub mod Sizes
pub mod Statements
pub mod Tables
