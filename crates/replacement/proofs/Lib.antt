mod ListLemmas
mod RetypeLemmas
mod SubstitutionLemmas
mod SearchLemmas
mod MoveLemmas
mod MovingLemmas
mod ExpansionLemmas
pub mod KeptLemmas
mod ExpandingLemmas
mod ParameterLemmas
mod HeadLemmas
mod UnderlyingLemmas
mod DependenceLemmas
