pub mod Grows
pub mod Limits
pub mod Splices
pub mod Closes
pub mod Splicing
