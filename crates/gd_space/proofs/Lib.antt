pub mod Elements
mod Cuts
pub mod Changes
pub mod Tooks
mod Writes
pub mod Stacks
pub mod Sides
mod Pushes
pub mod Dones
mod BlockReads
pub mod Fits
mod Tables
mod Trials
mod Gives
mod Fills
mod Pushing
