pub mod BlockParts
pub mod Laying
