-- The readers of single parts of a block, and of counted lists.
use Rattle.std.proofs.Common.{◌≡◌, ℕ, Bool, true, false, List, [], ◌∷◌, length, Option, Some, None, Result, Ok, Err, refl, sym, ap, arith}
use Rattle.std.specs.Prelude.{nat_lt}
use Rattle.std.proofs.lemmas.List.{append-nil}
use Rattle.wire_bytes.specs.declared.fault.ByteFault.{ByteFault}
use Rattle.wire_bytes.specs.declared.fault.ByteFault.TheVariants as faults
use Rattle.wire_bytes.specs.Reading.{Spot, place, ◌>>=◌, or_fault}
use Rattle.wire_bytes.specs.Text.{text_in}
use Rattle.wire_bytes.specs.Uvarint.{uvarint_at}
use Rattle.wire_bytes.specs.Varint.{flag_at}
use Rattle.wire_bytes.specs.Local.{IsLocal as IsLocalReading}
use Rattle.wire_bytes.proofs.LocalLemmas.{StandsAt, TakesSome as TakesSomeBytes, after_step, then_from as reading_from, from_or, from_done}
use Rattle.wire_bytes.proofs.NumbersLocal.{uvarint_local, uvarint_some, flag_local}
use Rattle.position_codec.specs.Place.{Named, moved_on}
use Rattle.position_codec.specs.Position.{position_at}
use Rattle.position_codec.proofs.LocalLemmas.{position_local}
use Rattle.file_parts.specs.Paths.{path_in}
use Rattle.decl_spelling.specs.declared.mention.Mention.{Mention}
use Rattle.decl_spelling.specs.declared.mention.Demand.{Demand}
use Rattle.decl_spelling.specs.declared.mention.Demand.TheVariants.{Interface}
use Rattle.decl_spelling.specs.Sections.{Sections}
use Rattle.decl_spelling.specs.Spelled.{SpelledText, SpelledPath, SpelledPos, SpelledType, without_pos}
use Rattle.decl_spelling.specs.Reading.{pos_after, Ahead, Reader, Stopped, ask, or_stop, onto, plain, number_at, truth_at, text_at, path_at, placed, pos_at, mentioned, type_at, times, list_at, some_at}
use Rattle.decl_locality.specs.LocalReaders.{IsAskedAmong, IsSteady, IsLocal}
use Rattle.decl_locality.proofs.SteadyLemmas.{read_is}
use Rattle.decl_locality.proofs.LiftLemmas.{lifted_of, lifted, lifted_steady, lifted_inside}
use Rattle.decl_locality.proofs.InsideLemmas.{IsLocalFrom, TakesSome, same_local, same_from, done_local, then_local, times_local}

-- ---- what is read of the bytes alone

abbrev one_way : {X : Type 0} → (Spot → Result (X × Spot) ByteFault) → Named → Spot → Result (X × Spot) ByteFault
one_way read before = read

abbrev itself : {X : Type 0} → Named → X → X
itself before x = x

abbrev same_place : {X : Type 0} → Named → X → Named
same_place before x = before

abbrev names_none : {X : Type 0} → ℕ → X → List Mention
names_none at x = []

module _ {X : Type 0} (read : Spot → Result (X × Spot) ByteFault) where
  plain_is : (a : Ahead) (r : Result (X × Spot) ByteFault) → lifted_of (one_way read) itself same_place names_none a r ≡ plain a r
  plain_is a (Ok r) = ap (λ ms. Ok (r.0, record { spot = r.1; before = a.before; mentions = ms })) (append-nil a.mentions)
  plain_is a (Err f) = refl

  pub plain_local : IsLocalReading read → IsLocal (λ a. plain a (read a.spot))
  plain_local local =
      same_local (lifted (one_way read) itself same_place names_none) (λ a. plain a (read a.spot)) (λ a. plain_is a (read a.spot))
      (record {
        steady = lifted_steady (one_way read) itself same_place names_none (λ before. local.steady);
        inside = λ a fits. lifted_inside (one_way read) itself same_place names_none (place a.spot) (λ before. local) a fits (omega arith) (λ x s is. tt);
      })

  plain_took : (a b : Ahead) (x : X) (r : Result (X × Spot) ByteFault) → plain a r ≡ Ok (x, b) → (s : Spot) × (r ≡ Ok (x, s)) × (b.spot ≡ s)
  plain_took a b x (Ok r) e =
      let same : ◌≡◌ {A = X × Ahead} (r.0, onto a r.1) (x, b) = read_is (r.0, onto a r.1) (x, b) e in
      (r.1, ap (λ (p : X × Ahead). Ok (p.0, r.1)) same, sym (ap (λ (p : X × Ahead). p.1.spot) same))
  plain_took a b x (Err f) e = absurd cc

  pub plain_some : TakesSomeBytes read → TakesSome (λ a. plain a (read a.spot))
  plain_some some a b x e =
      let took = plain_took a b x (read a.spot) e in
      omega (arith, some a.spot took.0 x took.1, ap (λ (s : Spot). length s.left) took.2)

-- A value that is judged, where a fault stands at its start, and what follows.
module _ {X : Type 0} (read : Spot → Result (X × Spot) ByteFault) where
  module _ {Y Z : Type 0} (f : ℕ → X → ByteFault) (stands : (start : ℕ) (x : X) → StandsAt start (f start x)) (local : IsLocalReading read) (some : TakesSomeBytes read)
      (judge : X → Option Z) (k : X → Z → Reader Y) where
    abbrev judging : ℕ → X → Spot → Result ((X × Z) × Spot) ByteFault
    judging start x s = or_fault (f start x) (judge x) >>= λ z. Ok ((x, z), s)

    judging_local : IsLocalReading (after_step read judging)
    judging_local = reading_from read judging local some (λ start x. from_or start (f start x) (judge x) (λ z s. Ok ((x, z), s)) (stands start x) (λ z. from_done start (x, z)))

    judged_is : (a : Ahead) (r : Result (X × Spot) ByteFault)
        → (plain a (r >>= λ n. judging (place a.spot) n.0 n.1) >>= λ n. k n.0.0 n.0.1 n.1) ≡ (plain a r >>= λ n. or_stop a (f (place a.spot) n.0) (judge n.0) >>= λ z. k n.0 z n.1)
    judged_is a (Ok (x, s)) = by (judge x)
      where
        by : (o : Option Z) → (plain {X = X × Z} a (or_fault (f (place a.spot) x) o >>= λ z. Ok ((x, z), s)) >>= λ n. k n.0.0 n.0.1 n.1) ≡ (or_stop a (f (place a.spot) x) o >>= λ z. k x z (onto a s))
        by (Some z) = refl
        by None = refl
    judged_is a (Err g) = refl

  pub judged_then : {Y Z : Type 0} (f : ℕ → X → ByteFault) → ((start : ℕ) (x : X) → StandsAt start (f start x)) → IsLocalReading read → TakesSomeBytes read
      → (judge : X → Option Z) (k : X → Z → Reader Y) → ((x : X) (z : Z) → IsLocal (k x z))
      → IsLocal (λ a. plain a (read a.spot) >>= λ n. or_stop a (f (place a.spot) n.0) (judge n.0) >>= λ z. k n.0 z n.1)
  judged_then f stands local some judge k goes =
      same_local (λ a. plain a (after_step read (judging f stands local some judge k) a.spot) >>= λ n. k n.0.0 n.0.1 n.1)
      (λ a. plain a (read a.spot) >>= λ n. or_stop a (f (place a.spot) n.0) (judge n.0) >>= λ z. k n.0 z n.1)
      (λ a. judged_is f stands local some judge k a (read a.spot))
      (then_local (λ a. plain a (after_step read (judging f stands local some judge k) a.spot)) (λ n. k n.0 n.1)
      (plain_local (after_step read (judging f stands local some judge k)) (judging_local f stands local some judge k)) (λ n. goes n.0 n.1))

-- the same of a test
abbrev some_if : Bool → Option (Unit {0})
some_if true = Some tt
some_if false = None

asked_is : (a : Ahead) (b : Bool) (f : ByteFault) → or_stop a f (some_if b) ≡ ask a b f
asked_is a true f = refl
asked_is a false f = refl

pub asked_then : {X Y : Type 0} (read : Spot → Result (X × Spot) ByteFault) (f : ℕ → X → ByteFault) → ((start : ℕ) (x : X) → StandsAt start (f start x)) → IsLocalReading read
    → TakesSomeBytes read → (test : X → Bool) (k : X → Reader Y) → ((x : X) → IsLocal (k x))
    → IsLocal (λ a. plain a (read a.spot) >>= λ n. ask a (test n.0) (f (place a.spot) n.0) >>= λ met. k n.0 n.1)
asked_then {X} {Y} read f stands local some test k goes =
    same_local (λ a. plain a (read a.spot) >>= λ n. or_stop a (f (place a.spot) n.0) (some_if (test n.0)) >>= λ met. k n.0 n.1)
    (λ a. plain a (read a.spot) >>= λ n. ask a (test n.0) (f (place a.spot) n.0) >>= λ met. k n.0 n.1)
    (λ a. same a (plain a (read a.spot)))
    (judged_then read f stands local some (λ n. some_if (test n)) (λ n met. k n) (λ n met. goes n))
  where
    same : (a : Ahead) (r : Result (X × Ahead) Stopped) → (r >>= λ n. or_stop a (f (place a.spot) n.0) (some_if (test n.0)) >>= λ met. k n.0 n.1) ≡ (r >>= λ n. ask a (test n.0) (f (place a.spot) n.0) >>= λ met. k n.0 n.1)
    same a (Ok n) = ap (λ (r : Result (Unit {0}) Stopped). r >>= λ met. k n.0 n.1) (asked_is a (test n.0) (f (place a.spot) n.0))
    same a (Err s) = refl

-- ---- the parts of a block

pub number_local : IsLocal number_at
number_local = plain_local uvarint_at uvarint_local

pub number_some : TakesSome number_at
number_some = plain_some uvarint_at uvarint_some

pub truth_local : IsLocal truth_at
truth_local = plain_local flag_at flag_local

abbrev range_at : ℕ → ℕ → ByteFault
range_at start n = faults.Range start n

pub text_local : (src : Sections) → IsLocal (text_at src)
unfolding text_at
text_local src = judged_then uvarint_at range_at (λ start n. (refl, refl)) uvarint_local uvarint_some (text_in src.strings) (λ n text a. Ok (at_offset n text, a)) (λ n text. done_local (at_offset n text))
  where
    at_offset : ℕ → List ℕ → SpelledText
    at_offset n text = record { offset = Some n; text = text }

pub path_local : (src : Sections) → IsLocal (path_at src)
unfolding path_at
path_local src = judged_then uvarint_at range_at (λ start n. (refl, refl)) uvarint_local uvarint_some (path_in src.strings src.own src.paths) (λ n path a. Ok (at_offset n path, a)) (λ n path. done_local (at_offset n path))
  where
    at_offset : ℕ → List ℕ → SpelledPath
    at_offset n path = record { offset = Some n; path = path }

-- ---- positions

module _ (src : Sections) where
  abbrev reads_position : Named → Spot → Result (Named × Spot) ByteFault
  reads_position before s = position_at src.strings before.place s

  abbrev its_pos : Named → Named → SpelledPos
  its_pos before x = pos_after before x

  placed_is : (a : Ahead) (r : Result (Named × Spot) ByteFault) → lifted_of reads_position its_pos moved_on names_none a r ≡ placed a r
  placed_is a (Ok r) = ap (λ (ms : List Mention). Ok (pos_after a.before r.0, record { spot = r.1; before = moved_on a.before r.0; mentions = ms })) (append-nil a.mentions)
  placed_is a (Err f) = refl

  pub pos_local : IsLocal (pos_at src)
  pos_local =
      same_local (lifted reads_position its_pos moved_on names_none) (pos_at src) (λ a. placed_is a (position_at src.strings a.before.place a.spot))
      (record {
        steady = lifted_steady reads_position its_pos moved_on names_none (λ before. (position_local src.strings before.place).steady);
        inside = λ a fits. lifted_inside reads_position its_pos moved_on names_none (place a.spot) (λ before. position_local src.strings before.place) a fits (omega arith) (λ x s is. tt);
      })

-- ---- types

abbrev its_type : Named → ℕ → SpelledType
its_type before x = without_pos x

module _ (asked : Demand) where
  abbrev names_one : ℕ → ℕ → List Mention
  names_one at x = record { at = at; value = x; asked = asked } ∷ []

  type_is : (a : Ahead) (r : Result (ℕ × Spot) ByteFault) → lifted_of (one_way uvarint_at) its_type same_place names_one a r ≡ (plain a r >>= λ n. Ok (without_pos n.0, mentioned asked a n))
  type_is a (Ok r) = refl
  type_is a (Err f) = refl

  type_steady : IsSteady (lifted (one_way uvarint_at) its_type same_place names_one)
  type_steady = lifted_steady (one_way uvarint_at) its_type same_place names_one (λ before. uvarint_local.steady)

  pub type_local : ((from end : ℕ) → IsAskedAmong from end asked) → IsLocal (type_at asked)
  unfolding type_at
  type_local unplaced =
      same_local (lifted (one_way uvarint_at) its_type same_place names_one) (type_at asked) (λ a. type_is a (uvarint_at a.spot))
      (record {
        steady = type_steady;
        inside = λ a fits. lifted_inside (one_way uvarint_at) its_type same_place names_one (place a.spot) (λ before. uvarint_local) a fits (omega arith)
            (λ x s is. ((omega arith, omega (arith, uvarint_some a.spot s x is, fits), unplaced (place a.spot) a.spot.end), tt));
      })

-- the flag stands where the step before began
pub constraint_from : (start : ℕ) → IsLocalFrom start (type_at (Interface start))
unfolding type_at
constraint_from start =
    same_from start (lifted (one_way uvarint_at) its_type same_place (names_one (Interface start))) (type_at (Interface start)) (λ a. type_is (Interface start) a (uvarint_at a.spot))
    (record {
      steady = type_steady (Interface start);
      inside = λ a fits le lt. lifted_inside (one_way uvarint_at) its_type same_place (names_one (Interface start)) start (λ before. uvarint_local) a fits le
          (λ x s is. ((le, omega (arith, uvarint_some a.spot s x is, fits), (omega arith, lt)), tt));
    })

-- ---- counted lists

pub list_local : {X : Type 0} (one : Reader X) → IsLocal one → IsLocal (list_at one)
unfolding list_at
list_local one local = then_local number_at (times one) number_local (times_local one local)

pub some_local : {X : Type 0} (one : Reader X) → IsLocal one → IsLocal (some_at one)
unfolding some_at
some_local one local = asked_then uvarint_at range_at (λ start n. (refl, refl)) uvarint_local uvarint_some (nat_lt 0) (times one) (times_local one local)
