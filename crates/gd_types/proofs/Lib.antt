mod Again
mod Appending
mod Back
mod Cuts
mod Finding
mod Making
mod Spreading
mod Widths
