pub mod SoundTypes
pub mod Covered
