pub mod Asking
mod Changing
mod Clearing
mod Frames
mod Growth
mod Lookups
mod Marks
mod News
mod OpenFacts
pub mod Pairs
mod Rooms
