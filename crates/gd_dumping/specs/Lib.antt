pub mod Dump
pub mod Forms
pub mod Words
