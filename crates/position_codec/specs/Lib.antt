pub mod Place
pub mod Position
pub mod Calls
pub mod Steps
