mod AsciiTrip
mod BinaryTrip
mod Chunks
mod Encoded
mod Lines
mod Names
