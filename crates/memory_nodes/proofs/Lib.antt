pub mod Numbering
pub mod Literals
pub mod Nodes
pub mod Filling
pub mod Texts
pub mod Along
pub mod Loops
