pub mod Memory
pub mod WithMemory
pub mod Counted
