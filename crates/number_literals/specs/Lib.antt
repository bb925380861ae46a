pub mod PlaceValues
pub mod Wholes
pub mod Reading
pub mod Runes
pub mod RuneReading
