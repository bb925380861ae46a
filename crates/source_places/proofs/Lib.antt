pub mod LeastLaws
pub mod StageLaws
