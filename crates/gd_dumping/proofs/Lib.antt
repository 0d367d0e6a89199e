mod Ends
mod Files
mod Refusals
mod Texts
