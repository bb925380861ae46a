pub mod BasicTypes
pub mod Calls
