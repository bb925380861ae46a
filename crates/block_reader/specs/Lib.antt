pub mod Calls
pub mod Spelled
pub mod Parts
pub mod Spellings
