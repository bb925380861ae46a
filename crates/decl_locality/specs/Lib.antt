pub mod LocalReaders
pub mod LongerFiles
