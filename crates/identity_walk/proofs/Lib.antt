mod WalkTurns
mod StackLemmas
mod TurnLemmas
mod CompareLemmas
