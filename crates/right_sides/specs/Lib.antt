pub mod Tables
pub mod Readings
