mod Lost
mod Meets
mod Spelled
mod Patches
mod Kept
mod Views
