mod TypeLemmas
