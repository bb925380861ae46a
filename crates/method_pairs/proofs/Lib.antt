mod OpeningLemmas
mod PairsLemmas
