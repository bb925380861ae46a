pub mod Tables
pub mod Looks
pub mod Summaries
