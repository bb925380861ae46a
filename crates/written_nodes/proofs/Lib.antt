mod ListLemmas
mod SortLemmas
mod LevelLemmas
mod ChildLemmas
mod SearchLemmas
mod MadeLemmas
mod MakingLemmas
mod DeclLemmas
