pub mod Resolved
pub mod Forms
pub mod Programs
