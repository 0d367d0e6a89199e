pub mod Files
mod Puts
mod Places
mod Records
mod Backs
mod Sizes
mod Bases
mod Whole
mod Results
pub mod Gone
mod Pools
mod SplitParts
mod DoubleParts
mod Takes
mod Numbers
mod Entries
pub mod Chains
mod Ends
mod Settled
mod Growth
mod StepChains
mod NextBits
pub mod Heads
mod Ways
