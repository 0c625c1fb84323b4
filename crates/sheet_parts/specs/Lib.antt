pub mod Line
pub mod Resolved
pub mod Section
