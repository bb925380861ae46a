pub mod Names
pub mod Firsts
pub mod Repeats
pub mod Tables
