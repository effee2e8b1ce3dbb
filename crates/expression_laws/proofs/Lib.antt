pub mod ExprGives
pub mod ExprLayers
pub mod ExprSpells
pub mod Gives
pub mod Layers
pub mod Spells
pub mod Words
