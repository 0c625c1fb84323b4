-- the fields of 64 bits
pub mod Fields
