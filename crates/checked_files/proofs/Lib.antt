mod ZipLemmas
mod ReadingLemmas
mod RoleLemmas
mod JudgingLemmas
