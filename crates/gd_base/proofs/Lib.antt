mod Inputs
pub mod Waits
pub mod Writes
