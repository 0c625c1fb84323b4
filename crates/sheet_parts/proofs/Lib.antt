pub mod Putting
pub mod Lining
pub mod Parts
pub mod Sections
pub mod Beside
