mod PairLemmas
mod SetLemmas
