pub mod ListingLemmas
pub mod PuttingLemmas
pub mod LookedUpLemmas
pub mod ShowingLemmas
mod CheckingLemmas
pub mod DueLemmas
pub mod RunningLemmas
pub mod CarriedLemmas
pub mod OpeningLemmas
pub mod CollectingLemmas
