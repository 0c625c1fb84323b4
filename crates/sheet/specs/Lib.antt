pub mod Checks
pub mod Same
