mod ChainLemmas
mod ItselfLemmas
