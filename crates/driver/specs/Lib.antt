pub mod Tables
pub mod Driver
pub mod Asked
pub mod Told
pub mod Every
