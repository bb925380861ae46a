pub mod DeltaLemmas
pub mod PlaceLemmas
pub mod WroteLemmas
pub mod PositionLemmas
pub mod EveryPlace
pub mod LocalLemmas
