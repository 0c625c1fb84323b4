pub mod Nesting
pub mod Admitted
