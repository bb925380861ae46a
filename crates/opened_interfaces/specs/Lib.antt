pub mod Meant
pub mod Ways
pub mod Calls
