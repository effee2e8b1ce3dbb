mod Examples
pub mod Column
pub mod ListedNames
pub mod Moved
pub mod OneText
pub mod Printed
pub mod ReadsBack
pub mod Unnamed
