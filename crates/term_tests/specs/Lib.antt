pub mod Aliases
pub mod Mentions
pub mod Walks
