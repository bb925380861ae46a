pub mod Outcomes
pub mod FirstFaults
