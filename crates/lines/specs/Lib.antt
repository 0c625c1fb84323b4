pub mod Look
pub mod Copy
pub mod Append
pub mod Memory
pub mod Lines
