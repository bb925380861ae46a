pub mod StackLemmas
pub mod OpenLemmas
