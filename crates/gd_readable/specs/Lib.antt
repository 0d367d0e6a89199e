pub mod Asks
pub mod Checks
pub mod Left
pub mod Standing
