pub mod PathLemmas
pub mod Windows
