pub mod Spots
pub mod Visits
pub mod Seen
pub mod Rows
pub mod Rules
