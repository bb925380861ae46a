mod CommonLemmas
pub mod FoundLemmas
pub mod LoopLemmas
mod OneTurns
mod ListsTurns
