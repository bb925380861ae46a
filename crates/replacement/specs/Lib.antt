pub mod Substitution
pub mod Moves
pub mod Expansion
pub mod Calls
