pub mod Above
pub mod Lowest
