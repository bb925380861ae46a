pub mod Sets
pub mod Calls
