mod AfterLeft
pub mod Content
pub mod Files
pub mod FrameLeft
pub mod Lawful
pub mod Left
mod Taken
mod Stands
mod Told
pub mod Torn
pub mod WasLeft
pub mod Within
mod Since
pub mod OneFile
pub mod Writes
