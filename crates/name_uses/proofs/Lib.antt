pub mod FirstLaws
pub mod ParameterLaws
