pub mod String
pub mod Convert
pub mod Default
pub mod Members
