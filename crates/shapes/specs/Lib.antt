pub mod Alike
pub mod Classes
pub mod Keys
