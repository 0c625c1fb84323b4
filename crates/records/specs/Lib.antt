pub mod Starts
pub mod Tables
pub mod Words
