pub mod Walk
pub mod Alike
