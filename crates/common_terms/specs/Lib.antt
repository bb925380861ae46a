pub mod Comparing
pub mod Calls
