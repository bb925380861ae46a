pub mod Adding
pub mod Declaring
pub mod Putting
