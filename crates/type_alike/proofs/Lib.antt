pub mod StepLemmas
mod IdentityLemmas
mod SwapLemmas
