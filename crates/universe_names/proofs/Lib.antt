pub mod UniverseLaws
