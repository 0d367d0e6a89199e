mod Trials
mod Starts
