pub mod Predeclared
