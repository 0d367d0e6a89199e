mod Bracing
mod Digits
mod Naming
mod Refusing
mod Steps
mod Limits
