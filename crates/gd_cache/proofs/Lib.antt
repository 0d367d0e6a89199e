mod Files
mod Helds
mod Uses
