pub mod Names
pub mod VarTypes
pub mod Duplicates
