pub mod Words
pub mod Literals
pub mod Trees
pub mod Files
pub mod Laws
