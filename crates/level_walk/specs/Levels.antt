-- Tests of pairs that go level by level. A pair is first made ready (settle). A ready pair leads to the pairs of its
-- parts, or fails a demand, or has a fault (steps).
use Rattle.std.specs.Prelude.{◌≡◌, List, [], ◌∷◌, Bool, true, false, Result, Ok, Err, Option, Some, None}
use Rattle.std.specs.List.{Contains}

-- The first that isn't so, or can't be told, is the answer.
abbrev pub and_then : {F : Type 0} → Result Bool F → Result Bool F → Result Bool F
and_then (Ok true) later = later
and_then (Ok false) later = Ok false
and_then (Err f) later = Err f

-- each pair passes
abbrev pub passes : {P F : Type 0} → (P → Result Bool F) → List P → Result Bool F
passes test [] = Ok true
passes test (p ∷ ps) = and_then (test p) (passes test ps)

module _ {P Q F : Type 0} (settle : P → Result Q F) (steps : Q → Result (Option (List P)) F) where
  -- a ready pair passes where its parts do
  abbrev pub by_parts : (P → Result Bool F) → Result (Option (List P)) F → Result Bool F
  by_parts test (Err f) = Err f
  by_parts test (Ok None) = Ok false
  by_parts test (Ok (Some parts)) = passes test parts

  abbrev pub by_level : (P → Result Bool F) → Result Q F → Result Bool F
  by_level test (Err f) = Err f
  by_level test (Ok q) = by_parts test (steps q)

  -- All ways from a pair to the pairs of its parts, and on to the parts of these, come to an end.
  pub data IsFinite : P → Type 0 where
    is_finite : (p : P)
        → ((q : Q) (parts : List P) (part : P) → settle p ≡ Ok q → steps q ≡ Ok (Some parts) → Contains parts part
        → IsFinite part) → IsFinite p

  -- a test that goes level by level, at pairs of which something holds, from which all ways come to an end
  pub record Levels (holds : P → Type 0) : Type 0 where
    pub test : P → Result Bool F
    pub level : (p : P) → holds p → test p ≡ by_level test (settle p)
    pub parts : (p : P) (q : Q) (parts : List P) (part : P) → holds p → settle p ≡ Ok q → steps q ≡ Ok (Some parts)
        → Contains parts part → holds part
    pub finite : (p : P) → holds p → IsFinite p
