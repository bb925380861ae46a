pub mod StopsLemmas
pub mod TimesLemmas
pub mod FileBytes
