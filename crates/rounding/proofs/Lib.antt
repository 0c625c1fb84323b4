pub mod Laws
pub mod Closest
pub mod Single
