pub mod Decoding
pub mod Encoding
pub mod Members
pub mod Numerals
pub mod Printing
pub mod RoundTrip
pub mod Rows
pub mod Lookups
