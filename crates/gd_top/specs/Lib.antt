pub mod Devices
pub mod Dump
pub mod Load
pub mod Run
pub mod Tool
pub mod Words
