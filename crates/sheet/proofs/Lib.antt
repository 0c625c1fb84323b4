pub mod Telling
pub mod Matching
pub mod Looping
pub mod Answering
pub mod Demand
