pub mod Placing
pub mod Writing
pub mod Reading
