pub mod Chains
pub mod Kept
pub mod Others
pub mod Steps
