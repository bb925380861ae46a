pub mod Making
pub mod Nodes
pub mod Pools
pub mod Searching
