pub mod Known
pub mod Refused
pub mod Apart
pub mod Fronts
