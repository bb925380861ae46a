pub mod SessionEntries
pub mod SessionEntryLaws
