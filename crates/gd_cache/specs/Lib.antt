pub mod Blocks
pub mod Cached
