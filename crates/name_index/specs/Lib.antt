pub mod FullFile
pub mod Envelope
pub mod FirstBreach
pub mod Records
pub mod Lookup
pub mod Opening
