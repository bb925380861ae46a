mod FindingLemmas
pub mod CountingLemmas
pub mod CountLaws
