pub mod Looking
pub mod Copying
pub mod Appending
pub mod Memories
pub mod Meanings
pub mod Lending
