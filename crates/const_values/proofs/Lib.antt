pub mod Words
pub mod Shifts
pub mod Admits
pub mod Divisions
