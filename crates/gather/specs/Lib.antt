pub mod Answers
pub mod Room
pub mod Leaves
pub mod Copies
pub mod Elements
