pub mod Putting
pub mod Numbers
pub mod Lining
pub mod Refusing
pub mod Series
pub mod Room
pub mod Reading
