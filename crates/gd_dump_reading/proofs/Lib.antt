mod AsciiEnds
mod AsciiWaits
mod BinaryEnds
pub mod BinaryPairs
mod BinaryReading
mod Contains
pub mod DataLines
mod DatumParts
pub mod Datums
mod Digits
pub mod Encodes
mod Feeding
mod Fronts
mod ItemEnds
pub mod LineCuts
mod LineParts
mod LineShown
mod ParamCuts
mod Quoted
mod TextLines
mod TextParts
