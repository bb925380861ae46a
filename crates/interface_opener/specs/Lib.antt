pub mod Numbered
pub mod Stacked
