mod Digits
mod Facts
