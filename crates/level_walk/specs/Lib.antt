pub mod Levels
pub mod Walk
pub mod WalkLaws
