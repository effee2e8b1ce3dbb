pub mod Laws
pub mod Same
pub mod Written
pub mod Put
pub mod Found
