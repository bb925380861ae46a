pub mod NodeEqualityLemmas
pub mod InsertionLemmas
pub mod HolderLemmas
