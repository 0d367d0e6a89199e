mod Opens
mod Owns
mod Runs
mod Counts
mod Orders
pub mod Keys
mod Blocks
