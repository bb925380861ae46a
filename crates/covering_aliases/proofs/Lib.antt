mod ReplacedLemmas
pub mod AliasLemmas
pub mod SoundLemmas
pub mod GoodLemmas
pub mod ExpandingLemmas
