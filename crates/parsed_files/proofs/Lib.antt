pub mod ReadLaws
pub mod FileLaws
pub mod RefusalLaws
