pub mod Accepting
pub mod Admitting
pub mod Nests
pub mod Wanting
