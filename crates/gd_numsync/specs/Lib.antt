pub mod Open
pub mod Spells
pub mod Files
pub mod Numbered
pub mod Converted
pub mod Recut
pub mod Laws
