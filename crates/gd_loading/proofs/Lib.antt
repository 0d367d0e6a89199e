mod Closings
mod Entries
mod Naming
mod Rounds
mod Steps
mod Whole
