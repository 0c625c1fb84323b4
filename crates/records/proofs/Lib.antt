pub mod Declaring
pub mod Filling
pub mod Links
pub mod Listed
pub mod Making
pub mod Ranging
pub mod Scanning
pub mod Starting
