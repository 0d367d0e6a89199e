mod Chosen
mod Fields
