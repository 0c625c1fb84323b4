pub mod Trees
pub mod Completed
pub mod Lent
