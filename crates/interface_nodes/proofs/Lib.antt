mod HeldLemmas
mod BeneathLemmas
