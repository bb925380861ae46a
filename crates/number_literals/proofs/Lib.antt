pub mod Sums
pub mod Laws
pub mod RuneLaws
pub mod RuneTokens
