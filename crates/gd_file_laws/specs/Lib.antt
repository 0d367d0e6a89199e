pub mod Parts
pub mod Cover
pub mod Points
pub mod Frame
pub mod Sizes
pub mod Stack
