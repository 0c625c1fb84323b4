pub mod Extent
pub mod Words
pub mod Node
pub mod Part
