pub mod ReadsBack
pub mod FirstColumn
