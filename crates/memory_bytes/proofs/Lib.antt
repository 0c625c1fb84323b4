pub mod Numbering
pub mod Spelling
pub mod Standing
pub mod Writing
