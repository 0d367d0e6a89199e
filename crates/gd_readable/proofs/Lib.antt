mod Ahead
pub mod Asks
mod Entries
mod Fronts
pub mod Headers
pub mod Refusals
mod Left
mod Nexts
pub mod Passing
pub mod Places
mod Reach
pub mod Runs
mod Seen
mod Steps
pub mod Walks
