pub mod Reading
pub mod Filing
pub mod Texting
