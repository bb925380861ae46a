pub mod Growth
pub mod Gathering
