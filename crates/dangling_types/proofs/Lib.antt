mod ListLemmas
mod SearchLemmas
mod FirstLemmas
mod NodeLemmas
mod KnowingLemmas
mod LawLemmas
