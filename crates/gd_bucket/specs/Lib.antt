pub mod Probing
pub mod Removing
pub mod Splitting
pub mod Map
