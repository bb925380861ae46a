mod ParameterLemmas
mod AlikeLemmas
mod TellingLemmas
mod ReadingLemmas
