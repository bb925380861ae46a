pub mod Counts
pub mod Files
pub mod Sinks
pub mod MemoryFiles
pub mod MemorySink
