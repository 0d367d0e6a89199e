pub mod Opens
pub mod Blocks
pub mod Files
mod Fits
