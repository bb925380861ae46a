pub mod Bytes
pub mod OpenFiles
mod Listed
pub mod Standing
mod ComingDown
pub mod Outcomes
mod OpenLemmas
pub mod LoadingLemmas
pub mod LoadLaws
mod PackageLemmas
mod KeyLemmas
mod KeyListLemmas
mod IndexLemmas
mod PathLemmas
mod WayLemmas
