pub mod NewFile
pub mod Begun
pub mod Stands
pub mod Laws
