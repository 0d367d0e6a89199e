pub mod Load
pub mod Loads
