pub mod FirstDangling
pub mod NodeReferences
pub mod Findings
pub mod Searching
