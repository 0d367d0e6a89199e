mod Cutting
mod Chains
mod Closing
mod Lining
mod Pieces
mod Turning
mod Running
mod Stepping
