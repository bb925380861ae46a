pub mod Items
pub mod Bytes
pub mod Walk
pub mod Places
pub mod Rising
pub mod Layout
pub mod Conditions
pub mod Law
