pub mod Objects
pub mod Imports
pub mod Scopes
pub mod Tables
pub mod Rows
