-- shapes in words, places of parts, and what stands beside a tree
pub mod Words
pub mod Parts
pub mod Laid
