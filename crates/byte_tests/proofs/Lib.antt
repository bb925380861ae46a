mod AliasLemmas
