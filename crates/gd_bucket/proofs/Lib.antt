mod Around
mod Finds
mod Inserts
mod Removes
pub mod Falls
pub mod Holes
mod Parts
pub mod Maps
