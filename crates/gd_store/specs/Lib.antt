pub mod Changed
pub mod Held
pub mod Laws
pub mod Located
pub mod Opened
pub mod Replies
