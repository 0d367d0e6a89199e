mod Begins
pub mod Powers
mod Numbers
mod Headers
mod TwoBlocks
pub mod News
mod Writes
