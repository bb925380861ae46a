pub mod HeldNodes
pub mod Beneath
