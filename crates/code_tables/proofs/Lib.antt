pub mod Distinct
pub mod Numbered
