pub mod Reading
pub mod Finding
pub mod Order
pub mod Counting
