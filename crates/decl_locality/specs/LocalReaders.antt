-- Readers of a block's own bytes that depend only on the bytes up to where they end, or up to where their fault is met.
use Rattle.std.specs.Prelude.{◌≡◌, ℕ, ◌<◌, ◌≤◌, List, ◌++◌, length, Bool, true, false, Result, Ok, Err}
use Rattle.std.specs.List.{AllByRecursion}
use Rattle.wire_bytes.specs.declared.fault.ByteFault.TheVariants.{Ended}
use Rattle.wire_bytes.specs.Reading.{place}
use Rattle.wire_bytes.specs.Local.{with_more, IsAhead, is_ended, AreBytes, IsAmong}
use Rattle.decl_spelling.specs.declared.mention.Mention.{Mention}
use Rattle.decl_spelling.specs.declared.mention.Demand.{Demand}
use Rattle.decl_spelling.specs.declared.mention.Demand.TheVariants.{Any, Parameter, Underlying, Base, NoParameter}
use Rattle.decl_spelling.specs.declared.mention.Demand.TheVariants.{Interface}
use Rattle.decl_spelling.specs.Reading.{Ahead, Reader, Stopped}

-- the same block, where more bytes follow
abbrev pub longer : Ahead → List ℕ → Ahead
longer a more = record { spot = with_more a.spot more; before = a.before; mentions = a.mentions }

-- the types that were named so far
abbrev pub named_by : {X : Type 0} → Result (X × Ahead) Stopped → List Mention
named_by (Ok x) = (x.1).mentions
named_by (Err stopped) = stopped.mentions

-- whether bytes are wanting for an answer
abbrev pub wants_more : {X : Type 0} → Result (X × Ahead) Stopped → Bool
wants_more (Ok x) = false
wants_more (Err stopped) = is_ended stopped.fault

-- some were named after these
abbrev pub Continues : List Mention → List Mention → Type 0
Continues old new = (added : List Mention) × (new ≡ old ++ added)

-- What was read is the same whatever follows, and so is each fault but `ended`, with the types that were named before
-- it. `ended` stands at the end of the block and comes only where more bytes give another answer; what was named before
-- it stays named.
pub record IsSteady {X : Type 0} (read : Reader X) : Type 0 where
  pub ahead : (a b : Ahead) (x : X) → read a ≡ Ok (x, b) → IsAhead a.spot b.spot
  pub names : (a : Ahead) → Continues a.mentions (named_by (read a))
  pub stays : (a b : Ahead) (x : X) (more : List ℕ) → read a ≡ Ok (x, b) → read (longer a more) ≡ Ok (x, longer b more)
  pub refused : (a : Ahead) (stopped : Stopped) (more : List ℕ) → read a ≡ Err stopped
      → is_ended stopped.fault ≡ false → read (longer a more) ≡ Err stopped
  pub end : (a : Ahead) (stopped : Stopped) (at : ℕ) → read a ≡ Err stopped → stopped.fault ≡ Ended at
      → at ≡ a.spot.end
  pub still_named : (a : Ahead) (stopped : Stopped) (more : List ℕ) → read a ≡ Err stopped
      → Continues stopped.mentions (named_by (read (longer a more)))
  pub goes_on : (a : Ahead) → wants_more (read a) ≡ true
      → (more : List ℕ) × AreBytes more × (wants_more (read (longer a more)) ≡ false)

-- the place at which a demand tells its fault, where it isn't that of the typeOff
abbrev pub IsAskedAmong : ℕ → ℕ → Demand → Type 0
IsAskedAmong from end Any = Unit {0}
IsAskedAmong from end Parameter = Unit {0}
IsAskedAmong from end Underlying = Unit {0}
IsAskedAmong from end Base = Unit {0}
IsAskedAmong from end NoParameter = Unit {0}
IsAskedAmong from end (Interface flag) = (from ≤ flag) × (flag < end)

-- a typeOff stands at one of the bytes from here on, and so does what its holder asks
abbrev pub IsNamedAmong : ℕ → ℕ → Mention → Type 0
IsNamedAmong from end mention = (from ≤ mention.at) × (mention.at < end) × IsAskedAmong from end mention.asked

-- those that were named after some
abbrev pub AreNamedAmong : ℕ → ℕ → List Mention → List Mention → Type 0
AreNamedAmong from end old new = (added : List Mention) × (new ≡ old ++ added)
    × AllByRecursion (IsNamedAmong from end) added

-- what was named since, and each fault but `ended`, stands at one of these bytes
abbrev pub StaysAmong : ℕ → ℕ → List Mention → {X : Type 0} → Result (X × Ahead) Stopped → Type 0
StaysAmong from end old (Ok x) = AreNamedAmong from end old (x.1).mentions
StaysAmong from end old (Err stopped) = AreNamedAmong from end old stopped.mentions
    × (is_ended stopped.fault ≡ false → IsAmong from end stopped.fault)

-- And all that is named, and each fault but `ended`, stands at a byte that was left when the reading began.
pub record IsLocal {X : Type 0} (read : Reader X) : Type 0 where
  pub steady : IsSteady read
  pub inside : (a : Ahead) → length a.spot.left ≤ a.spot.end → StaysAmong (place a.spot) a.spot.end a.mentions (read a)
