pub mod Target
pub mod Exchange
pub mod Host
pub mod Carried
pub mod Laws
