pub mod Causes
pub mod Clocks
pub mod Errors
pub mod Memory
pub mod Names
pub mod Pages
pub mod Sources
pub mod Streams
