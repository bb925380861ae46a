mod MentionLemmas
mod CoveredLemmas
mod OpeningLemmas
mod DefinedLemmas
mod SetLemmas
