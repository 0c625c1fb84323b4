pub mod Linking
pub mod Running
