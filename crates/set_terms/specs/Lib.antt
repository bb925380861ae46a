pub mod Needed
pub mod Shares
pub mod Known
pub mod Meant
