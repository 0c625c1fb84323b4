pub mod Numbers
pub mod Completing
pub mod Demand
