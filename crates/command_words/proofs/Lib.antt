pub mod Named
pub mod OneReading
pub mod Spelled
pub mod Wrong
