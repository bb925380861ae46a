pub mod RightSides
pub mod TermTests
pub mod Interfaces
pub mod Covering
pub mod TypeSets
