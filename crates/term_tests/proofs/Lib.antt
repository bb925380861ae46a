pub mod ListLemmas
mod MentionLemmas
mod SideLemmas
pub mod FineLemmas
pub mod WalkLemmas
pub mod StepLemmas
