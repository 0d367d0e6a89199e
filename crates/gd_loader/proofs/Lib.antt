mod Calm
mod Fronts
