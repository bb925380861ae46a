pub mod Kinds
pub mod Values
pub mod Bitwise
pub mod Exact
pub mod Answers
