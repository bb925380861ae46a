pub mod Sides
pub mod Demands
pub mod Sets
pub mod Identity
pub mod Comparing
