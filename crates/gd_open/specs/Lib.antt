pub mod Open
pub mod Files
pub mod Reading
pub mod Spells
