pub mod Nearest
pub mod Units
pub mod Single
pub mod Laws
