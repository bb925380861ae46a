mod ListLemmas
mod DemandLemmas
mod InsideLemmas
