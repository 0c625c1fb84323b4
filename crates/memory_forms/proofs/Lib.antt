pub mod Forming
pub mod Counting
pub mod Holding
pub mod Celling
