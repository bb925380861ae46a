pub mod Grammar
pub mod Params
pub mod Elements
pub mod Types
pub mod PlainTypes
pub mod StandingTypes
