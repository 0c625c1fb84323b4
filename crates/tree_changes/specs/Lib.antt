pub mod Limit
pub mod Grow
