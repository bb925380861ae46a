mod SetLemmas
mod MethodLemmas
