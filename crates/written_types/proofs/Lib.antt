pub mod ByNameLemmas
pub mod NameLemmas
