pub mod ScopeLaws
pub mod TableLaws
pub mod OutsideLaws
