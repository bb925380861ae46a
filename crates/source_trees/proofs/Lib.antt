pub mod LiteralLaws
pub mod RepeatedLaws
pub mod Equations
