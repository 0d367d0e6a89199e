mod Files
mod Fronts
mod Kept
mod Renumbered
mod Turned
mod Pushed
mod Shrunk
