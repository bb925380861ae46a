-- Comparing pairs, and all the pairs to which they lead, each once. A pair is first made ready (settle), and two that
-- are ready may be the same (same). A ready pair leads to the pairs of its parts, or fails a demand, or has a fault
-- (steps).
use Rattle.std.specs.Prelude.{ℕ, zero, suc, List, [], ◌∷◌, ◌++◌, map, Bool, cond, Result, Ok, Err, Option, Some, None}
use Rattle.std.specs.List.{list_any}

-- how a walk ends: by itself; at a pair that fails a demand, with its depth; at one pair more than may be visited; at a
-- fault
pub data End (F : Type 0) : Type 0 where
  by_itself : End F
  apart : ℕ → End F
  past_limit : End F
  broken : F → End F

-- the ready pairs that were met, in the order of their first visits, and the end
pub record Walked (Q F : Type 0) : Type 0 where
  pub pairs : List Q
  pub end : End F

-- a pair that is still to be visited, and how many steps from part to part lead to it
pub record Visit (P : Type 0) : Type 0 where
  pub pair : P
  pub depth : ℕ

-- the first visit to a pair that wasn't met before: the ready pair, its depth, and the visits behind it
pub data Next (P Q F : Type 0) : Type 0 where
  nothing : Next P Q F
  faulty : F → Next P Q F
  found : Q → ℕ → List (Visit P) → Next P Q F

abbrev pub visits : {P : Type 0} → ℕ → List P → List (Visit P)
visits depth pairs = map (λ pair. record { pair = pair; depth = depth }) pairs

module _ {P Q F : Type 0} (settle : P → Result Q F) (same : Q → Q → Bool) (steps : Q → Result (Option (List P)) F) where
  abbrev pub unless_met : List Q → Result Q F → ℕ → List (Visit P) → Next P Q F → Next P Q F
  unless_met met (Err f) depth behind later = faulty f
  unless_met met (Ok q) depth behind later = cond (list_any (same q) met) later (found q depth behind)

  abbrev pub next : List Q → List (Visit P) → Next P Q F
  next met [] = nothing
  next met (x ∷ xs) = unless_met met (settle x.pair) x.depth xs (next met xs)

  abbrev pub ended : List Q → End F → Walked Q F
  ended met end = record { pairs = met; end = end }

  -- a pair more than may be visited is met, and looked at no further
  abbrev pub at_limit : List Q → Next P Q F → Walked Q F
  at_limit met nothing = ended met by_itself
  at_limit met (faulty f) = ended met (broken f)
  at_limit met (found q depth behind) = ended (met ++ q ∷ []) past_limit

  -- the visits to the parts come before those that stand behind; further is how the walk goes on
  abbrev pub visited : (List Q → List (Visit P) → Walked Q F) → List Q → ℕ → List (Visit P)
      → Result (Option (List P)) F → Walked Q F
  visited further met depth behind (Err f) = ended met (broken f)
  visited further met depth behind (Ok None) = ended met (apart (suc depth))
  visited further met depth behind (Ok (Some parts)) = further met (visits (suc depth) parts ++ behind)

  abbrev pub onward : (List Q → List (Visit P) → Walked Q F) → List Q → Next P Q F → Walked Q F
  onward further met nothing = ended met by_itself
  onward further met (faulty f) = ended met (broken f)
  onward further met (found q depth behind) = visited further (met ++ q ∷ []) depth behind (steps q)

  -- with so many pairs that may still be visited, those that were met, and the visits that are due
  unfoldable pub walk : ℕ → List Q → List (Visit P) → Walked Q F
  walk zero met due = at_limit met (next met due)
  walk (suc n) met due = onward (walk n) met (next met due)
