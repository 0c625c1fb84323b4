pub mod Onward
pub mod Single
pub mod Copying
pub mod Gathering
pub mod Arrays
pub mod Elements
pub mod Members
