pub mod Known
pub mod EnvelopeLemmas
