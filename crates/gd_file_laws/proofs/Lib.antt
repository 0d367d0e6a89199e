pub mod Covers
pub mod Walk
pub mod Made
pub mod Frame
pub mod Stacks
pub mod Lists
pub mod Headers
pub mod Points
