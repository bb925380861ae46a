pub mod Containment
pub mod Counting
pub mod Cycles
pub mod Forms
pub mod Paths
pub mod Search
