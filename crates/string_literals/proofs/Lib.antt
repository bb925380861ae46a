pub mod Digits
pub mod Passing
pub mod Again
pub mod Valued
