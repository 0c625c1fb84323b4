pub mod Classing
pub mod Comparing
pub mod Filling
pub mod Keying
pub mod Multiplying
