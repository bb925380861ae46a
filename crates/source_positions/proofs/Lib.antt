pub mod Entries
pub mod Starts
