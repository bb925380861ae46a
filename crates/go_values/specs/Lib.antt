pub mod Exact
pub mod Stored
