pub mod Paths
pub mod FileParts
