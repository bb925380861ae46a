pub mod Exported
pub mod Small
pub mod Law
