pub mod Elements
pub mod Opening
pub mod Having
pub mod Terms
pub mod Meeting
pub mod Mapped
