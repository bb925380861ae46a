-- Where faults and types that are named stand: what readers of several steps say.
use Rattle.std.proofs.Common.{◌≡◌, ℕ, zero, suc, ◌<◌, ◌≤◌, List, [], ◌∷◌, ◌++◌, length, Result, Ok, Err, refl, sym, ap, subst, ◌∙◌, arith, append_assoc}
use Rattle.std.specs.List.{AllByRecursion}
use Rattle.std.proofs.lemmas.List.{append-nil}
use Rattle.wire_bytes.specs.Reading.{place, ◌>>=◌}
use Rattle.wire_bytes.proofs.LocalLemmas.{ahead_fits, ahead_place, among_from}
use Rattle.type_terms.specs.Replaced.{all_append}
use Rattle.decl_spelling.specs.declared.mention.Mention.{Mention}
use Rattle.decl_spelling.specs.declared.mention.Demand.{Demand}
use Rattle.decl_spelling.specs.declared.mention.Demand.TheVariants.{Any, Parameter, Underlying, Base, NoParameter, Interface}
use Rattle.decl_spelling.specs.Reading.{Ahead, Reader, Stopped, times}
use Rattle.decl_locality.specs.LocalReaders.{IsSteady, IsAskedAmong, IsNamedAmong, AreNamedAmong, StaysAmong, IsLocal}
use Rattle.decl_locality.proofs.SteadyLemmas.{done_steady, after, then_steady}

-- ---- more places

asked_from : (from less end end' : ℕ) (asked : Demand) → less ≤ from → end ≡ end' → IsAskedAmong from end asked → IsAskedAmong less end' asked
asked_from from less end end' Any le same among = tt
asked_from from less end end' Parameter le same among = tt
asked_from from less end end' Underlying le same among = tt
asked_from from less end end' Base le same among = tt
asked_from from less end end' NoParameter le same among = tt
asked_from from less end end' (Interface flag) le same among = (omega (arith, among.0, le), omega (arith, among.1, same))

all_from : (from less end end' : ℕ) (ms : List Mention) → less ≤ from → end ≡ end' → AllByRecursion (IsNamedAmong from end) ms → AllByRecursion (IsNamedAmong less end') ms
all_from from less end end' [] le same all = tt
all_from from less end end' (m ∷ ms) le same all = (
  (omega (arith, all.0.0, le), omega (arith, all.0.1, same), asked_from from less end end' m.asked le same all.0.2),
  all_from from less end end' ms le same all.1,
)

named_from : (from less end end' : ℕ) (old new : List Mention) → less ≤ from → end ≡ end' → AreNamedAmong from end old new → AreNamedAmong less end' old new
named_from from less end end' old new le same named = (named.0, named.1, all_from from less end end' named.0 le same named.2)

pub stays_from : {X : Type 0} (from less end end' : ℕ) (old : List Mention) (r : Result (X × Ahead) Stopped) → less ≤ from → end ≡ end' → StaysAmong from end old r → StaysAmong less end' old r
stays_from from less end end' old (Ok x) le same stays = named_from from less end end' old (x.1).mentions le same stays
stays_from from less end end' old (Err s) le same stays =
    (named_from from less end end' old s.mentions le same stays.0, λ plain. among_from from less end end' s.fault le same (stays.1 plain))

-- ---- one after the other

named_on : (from end : ℕ) (a b c : List Mention) → AreNamedAmong from end a b → AreNamedAmong from end b c → AreNamedAmong from end a c
named_on from end a b c first second = (
  first.0 ++ second.0,
  second.1 ∙ ap (λ ms. ms ++ second.0) first.1 ∙ append_assoc a first.0 second.0,
  all_append (IsNamedAmong from end) first.0 second.0 first.2 second.2,
)

stays_on : {X : Type 0} (from end : ℕ) (a b : List Mention) (r : Result (X × Ahead) Stopped) → AreNamedAmong from end a b → StaysAmong from end b r → StaysAmong from end a r
stays_on from end a b (Ok x) first second = named_on from end a b (x.1).mentions first second
stays_on from end a b (Err s) first second = (named_on from end a b s.mentions first second.0, second.1)

-- A reading that goes on, whose faults and types stand at bytes from a given place on.
pub record IsLocalFrom {X : Type 0} (start : ℕ) (read : Reader X) : Type 0 where
  pub steady : IsSteady read
  pub inside : (a : Ahead) → length a.spot.left ≤ a.spot.end → start ≤ place a.spot → start < a.spot.end → StaysAmong start a.spot.end a.mentions (read a)

-- a step that takes a byte at least
abbrev pub TakesSome : {X : Type 0} → Reader X → Type 0
TakesSome {X} read = (a b : Ahead) (x : X) → read a ≡ Ok (x, b) → length b.spot.left < length a.spot.left

pub from_local : {X : Type 0} (start : ℕ) (read : Reader X) → IsLocal read → IsLocalFrom start read
from_local start read local = record {
  steady = local.steady;
  inside = λ a fits le lt. stays_from (place a.spot) start a.spot.end a.spot.end a.mentions (read a) le refl (local.inside a fits);
}

pub same_local : {X : Type 0} (p q : Reader X) → ((a : Ahead) → p a ≡ q a) → IsLocal p → IsLocal q
same_local {X} p q same = subst (λ (r : Reader X). IsLocal r) (λ i a. same a i)

pub same_from : {X : Type 0} (start : ℕ) (p q : Reader X) → ((a : Ahead) → p a ≡ q a) → IsLocalFrom start p → IsLocalFrom start q
same_from {X} start p q same = subst (λ (r : Reader X). IsLocalFrom start r) (λ i a. same a i)

pub done_local : {X : Type 0} (x : X) → IsLocal (λ a. Ok (x, a))
done_local x = record { steady = done_steady x; inside = λ a fits. ([], sym (append-nil a.mentions), tt) }

pub done_from : {X : Type 0} (start : ℕ) (x : X) → IsLocalFrom start (λ a. Ok (x, a))
done_from start x = from_local start (λ a. Ok (x, a)) (done_local x)

module _ {X Y : Type 0} (p : Reader X) where
  -- the first step stays among places, and so does the second one where it is reached
  inside_steps : (q : ℕ → X → Reader Y) (from end : ℕ) (a : Ahead) → StaysAmong from end a.mentions (p a)
      → ((x : X) (b : Ahead) → p a ≡ Ok (x, b) → StaysAmong from end b.mentions (q (place a.spot) x b)) → StaysAmong from end a.mentions (after p q a)
  inside_steps q from end a one two = by (p a) refl one
    where
      by : (r : Result (X × Ahead) Stopped) → p a ≡ r → StaysAmong from end a.mentions r → StaysAmong from end a.mentions (r >>= λ r. q (place a.spot) r.0 r.1)
      by (Ok (x, b)) is named = stays_on from end a.mentions b.mentions (q (place a.spot) x b) named (two x b is)
      by (Err s) is stays = stays

  -- what follows may tell the place where the step began
  pub then_from : (q : ℕ → X → Reader Y) → IsLocal p → TakesSome p → ((start : ℕ) (x : X) → IsLocalFrom start (q start x)) → IsLocal (after p q)
  then_from q first some second = record {
    steady = then_steady p q first.steady (λ start x. (second start x).steady);
    inside = λ a fits. inside_steps q (place a.spot) a.spot.end a (first.inside a fits)
        (λ x b e.
        let ahead = first.steady.ahead a b x e in
        let taken = some a b x e in
        stays_from (place a.spot) (place a.spot) b.spot.end a.spot.end b.mentions (q (place a.spot) x b) (omega arith) ahead.same_end
        ((second (place a.spot) x).inside b (ahead_fits a.spot b.spot ahead fits) (ahead_place a.spot b.spot ahead) (omega (arith, ahead.same_end, taken, fits))));
  }

  pub then_placed : (q : ℕ → X → Reader Y) → IsLocal p → ((start : ℕ) (x : X) → IsLocal (q start x)) → IsLocal (after p q)
  then_placed q first second = record {
    steady = then_steady p q first.steady (λ start x. (second start x).steady);
    inside = λ a fits. inside_steps q (place a.spot) a.spot.end a (first.inside a fits)
        (λ x b e.
        let ahead = first.steady.ahead a b x e in
        stays_from (place b.spot) (place a.spot) b.spot.end a.spot.end b.mentions (q (place a.spot) x b) (ahead_place a.spot b.spot ahead) ahead.same_end
        ((second (place a.spot) x).inside b (ahead_fits a.spot b.spot ahead fits)));
  }

  pub then_local : (q : X → Reader Y) → IsLocal p → ((x : X) → IsLocal (q x)) → IsLocal (λ a. p a >>= λ r. q r.0 r.1)
  then_local q first second = then_placed (λ start. q) first (λ start. second)

  pub from_then : (start : ℕ) (q : X → Reader Y) → IsLocalFrom start p → ((x : X) → IsLocalFrom start (q x)) → IsLocalFrom start (λ a. p a >>= λ r. q r.0 r.1)
  from_then start q first second = record {
    steady = then_steady p (λ start. q) first.steady (λ start x. (second x).steady);
    inside = λ a fits le lt. inside_steps (λ start. q) start a.spot.end a (first.inside a fits le lt)
        (λ x b e.
        let ahead = first.steady.ahead a b x e in
        let before = ahead_place a.spot b.spot ahead in
        stays_from start start b.spot.end a.spot.end b.mentions (q x b) (omega arith) ahead.same_end
        ((second x).inside b (ahead_fits a.spot b.spot ahead fits) (omega (arith, le, before)) (omega (arith, lt, ahead.same_end))));
  }

-- ---- counted lists

pub times_local : {X : Type 0} (one : Reader X) → IsLocal one → (n : ℕ) → IsLocal (times one n)
unfolding times
times_local one local zero = done_local []
times_local one local (suc n) =
    then_local one (λ x a. times one n a >>= λ others. Ok (x ∷ others.0, others.1)) local
    (λ x. then_local (times one n) (λ xs a. Ok (x ∷ xs, a)) (times_local one local n) (λ xs. done_local (x ∷ xs)))
