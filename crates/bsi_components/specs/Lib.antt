pub mod Bitmaps
pub mod Component
pub mod ExtremeDigits
pub mod Equality
pub mod Encodings
pub mod PlaceNumbers
pub mod Ranks
