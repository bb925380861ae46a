pub mod MemoryLemmas
pub mod WholeReads
pub mod Agreement
pub mod SharedReads
pub mod StretchSums
pub mod TurnCounts
pub mod TwoTables
