-- Readings that depend only on the bytes up to where they end: a reading of such steps is one.
use Rattle.std.proofs.Common.{◌≡◌, ℕ, zero, suc, ◌+◌, ◌<◌, ◌≤◌, Bool, true, false, List, [], ◌∷◌, ◌++◌, length, Option, Some, None, Result, Ok, Err, refl, sym, ap, subst, ◌∙◌, arith, inl, inr, ◌⊎◌, append_assoc}
use Rattle.std.proofs.lemmas.List.{length-append}
use Rattle.wire_bytes.specs.declared.fault.ByteFault.{ByteFault}
use Rattle.wire_bytes.specs.declared.fault.ByteFault.TheVariants.{Ended}
use Rattle.wire_bytes.specs.Reading.{Spot, place, ◌>>=◌, demand, or_fault, many}
use Rattle.std.specs.Prelude.{IfSome}
use Rattle.wire_bytes.specs.Local.{with_more, IsAhead, place_of_fault, is_ended, wants_more, AreBytes, IsAmong, IsSteady, IsLocal}
use Rattle.wire_bytes.proofs.Steps.{bind_ok, done_is}

-- ---- places and bytes

pub place_more : (s : Spot) (more : List ℕ) → place (with_more s more) ≡ place s
place_more s more = omega (arith, length-append s.left more)

pub more_twice : (s : Spot) (a b : List ℕ) → with_more (with_more s a) b ≡ with_more s (a ++ b)
more_twice s a b =
    ap (λ (left : List ℕ). record { end = s.end + length a + length b; left = left }) (append_assoc s.left a b)
    ∙ ap (λ (end : ℕ). record { end = end; left = s.left ++ (a ++ b) }) (omega (arith, length-append a b))

pub AreBytes-append : (a b : List ℕ) → AreBytes a → AreBytes b → AreBytes (a ++ b)
AreBytes-append [] b first second i = second i
AreBytes-append (x ∷ a) b first second zero = first 0
AreBytes-append (x ∷ a) b first second (suc i) = AreBytes-append a b (λ i. first (suc i)) second i

pub ahead_here : (s : Spot) → IsAhead s s
ahead_here s = record { front = []; same_end = refl; behind = refl }

pub ahead_on : (a b c : Spot) → IsAhead a b → IsAhead b c → IsAhead a c
ahead_on a b c first second = record {
  front = first.front ++ second.front;
  same_end = second.same_end ∙ first.same_end;
  behind = first.behind ∙ ap (λ (left : List ℕ). first.front ++ left) second.behind ∙ sym (append_assoc first.front second.front c.left);
}

pub ahead_fits : (s after : Spot) → IsAhead s after → length s.left ≤ s.end → length after.left ≤ after.end
ahead_fits s after ahead fits = omega (arith, ahead.same_end, ap length ahead.behind, length-append ahead.front after.left)

pub ahead_place : (s after : Spot) → IsAhead s after → place s ≤ place after
ahead_place s after ahead = omega (arith, ahead.same_end, ap length ahead.behind, length-append ahead.front after.left)

pub among_from : (from less end end' : ℕ) (f : ByteFault) → less ≤ from → end ≡ end' → IsAmong from end f → IsAmong less end' f
among_from from less end end' f le same among = by (place_of_fault f) among
  where
    by : (o : Option ℕ) → IfSome o (λ at. (from ≤ at) × (at < end)) → IfSome o (λ at. (less ≤ at) × (at < end'))
    by (Some at) among = (omega (arith, among.0), omega (arith, among.1))
    by None among = tt

-- ---- the fault of two steps

abbrev pub failed : (A : Type 0) → ByteFault → Result A ByteFault
failed A f = Err f

pub fault_is : {A : Type 0} (f g : ByteFault) → failed A f ≡ failed A g → f ≡ g
fault_is f g e = cc

pub bind_err : {A B : Type 0} (r : Result A ByteFault) (k : A → Result B ByteFault) (f : ByteFault) → (r >>= k) ≡ Err f → (r ≡ Err f) ⊎ ((x : A) × (r ≡ Ok x) × (k x ≡ Err f))
bind_err (Ok x) k f e = inr (x, refl, e)
bind_err (Err g) k f e = inl (ap (λ (f : ByteFault). failed _ f) (fault_is g f e))

-- ---- steps

module _ {X : Type 0} where
  pub done_steady : (x : X) → IsSteady (λ s. Ok (x, s))
  done_steady x = record {
    ahead = λ s after y e. subst (λ (p : X × Spot). IsAhead s p.1) (done_is (x, s) (y, after) e) (ahead_here s);
    stays = λ s after y more e. ap (λ (p : X × Spot). Ok (p.0, with_more p.1 more)) (done_is (x, s) (y, after) e);
    refused = λ s f more e plain. absurd cc;
    end = λ s at e. absurd cc;
    goes_on = λ s e. absurd cc;
  }

  pub done_local : (x : X) → IsLocal (λ s. Ok (x, s))
  done_local x = record { steady = done_steady x; inside = λ s f fits e plain. absurd cc }

-- what a step is followed by, which may tell the place where the step began
abbrev pub after_step : {X Y : Type 0} → (Spot → Result (X × Spot) ByteFault) → (ℕ → X → Spot → Result (Y × Spot) ByteFault) → Spot → Result (Y × Spot) ByteFault
after_step a b s = a s >>= λ r. b (place s) r.0 r.1

module _ {X Y : Type 0} (a : Spot → Result (X × Spot) ByteFault) (b : ℕ → X → Spot → Result (Y × Spot) ByteFault) (first : IsSteady a) (second : (start : ℕ) (x : X) → IsSteady (b start x)) where
  -- the first step is over
  step_on : (s mid : Spot) (x : X) (more : List ℕ) → a s ≡ Ok (x, mid) → after_step a b (with_more s more) ≡ b (place s) x (with_more mid more)
  step_on s mid x more e =
      ap (λ (r : Result (X × Spot) ByteFault). r >>= λ r. b (place (with_more s more)) r.0 r.1) (first.stays s mid x more e)
      ∙ ap (λ (n : ℕ). b n x (with_more mid more)) (place_more s more)

  then_ahead : (s after : Spot) (y : Y) → after_step a b s ≡ Ok (y, after) → IsAhead s after
  then_ahead s after y e =
      let step = bind_ok (a s) (λ r. b (place s) r.0 r.1) (y, after) e in
      ahead_on s step.0.1 after (first.ahead s step.0.1 step.0.0 step.1) ((second (place s) step.0.0).ahead step.0.1 after y step.2)

  then_stays : (s after : Spot) (y : Y) (more : List ℕ) → after_step a b s ≡ Ok (y, after) → after_step a b (with_more s more) ≡ Ok (y, with_more after more)
  then_stays s after y more e =
      let step = bind_ok (a s) (λ r. b (place s) r.0 r.1) (y, after) e in
      step_on s step.0.1 step.0.0 more step.1 ∙ (second (place s) step.0.0).stays step.0.1 after y more step.2

  then_refused : (s : Spot) (f : ByteFault) (more : List ℕ) → after_step a b s ≡ Err f → is_ended f ≡ false → after_step a b (with_more s more) ≡ Err f
  then_refused s f more e plain =
      elim (bind_err (a s) (λ r. b (place s) r.0 r.1) f e) [
        | inl one ↦ ap (λ (r : Result (X × Spot) ByteFault). r >>= λ r. b (place (with_more s more)) r.0 r.1) (first.refused s f more one plain)
        | inr two ↦ step_on s two.0.1 two.0.0 more two.1 ∙ (second (place s) two.0.0).refused two.0.1 f more two.2 plain
      ]

  then_end : (s : Spot) (at : ℕ) → after_step a b s ≡ Err (Ended at) → at ≡ s.end
  then_end s at e =
      elim (bind_err (a s) (λ r. b (place s) r.0 r.1) (Ended at) e) [
        | inl one ↦ first.end s at one
        | inr two ↦ (second (place s) two.0.0).end two.0.1 at two.2 ∙ (first.ahead s two.0.1 two.0.0 two.1).same_end
      ]

  -- the first step needs no more bytes than these, and the second one some
  more_for_second : (s : Spot) (more : List ℕ) → AreBytes more → (x : X) (mid : Spot) → a (with_more s more) ≡ Ok (x, mid)
      → (more : List ℕ) × AreBytes more × (wants_more (after_step a b (with_more s more)) ≡ false)
  more_for_second s more fits x mid e = by (wants_more (b (place (with_more s more)) x mid)) refl
    where
      by : (w : Bool) → wants_more (b (place (with_more s more)) x mid) ≡ w → (more : List ℕ) × AreBytes more × (wants_more (after_step a b (with_more s more)) ≡ false)
      by false is = (more, fits, ap (λ (r : Result (X × Spot) ByteFault). wants_more (r >>= λ r. b (place (with_more s more)) r.0 r.1)) e ∙ is)
      by true is =
          let rest = (second (place (with_more s more)) x).goes_on mid is in (
            more ++ rest.0,
            AreBytes-append more rest.0 fits rest.1,
            ap (λ (t : Spot). wants_more (after_step a b t)) (sym (more_twice s more rest.0))
                ∙ ap (λ (r : Result (Y × Spot) ByteFault). wants_more r) (step_on (with_more s more) mid x rest.0 e)
                ∙ rest.2,
          )

  then_goes_on : (s : Spot) → wants_more (after_step a b s) ≡ true → (more : List ℕ) × AreBytes more × (wants_more (after_step a b (with_more s more)) ≡ false)
  then_goes_on s e = by (a s) refl
    where
      by : (r : Result (X × Spot) ByteFault) → a s ≡ r → (more : List ℕ) × AreBytes more × (wants_more (after_step a b (with_more s more)) ≡ false)
      by (Ok (x, mid)) is =
          let wants : wants_more (b (place s) x mid) ≡ true = sym (ap (λ (r : Result (X × Spot) ByteFault). wants_more (r >>= λ r. b (place s) r.0 r.1)) is) ∙ e in
          let rest = (second (place s) x).goes_on mid wants in
          (rest.0, rest.1, ap (λ (r : Result (Y × Spot) ByteFault). wants_more r) (step_on s mid x rest.0 is) ∙ rest.2)
      by (Err f) is =
          let wants : wants_more (a s) ≡ true = ap (λ (r : Result (X × Spot) ByteFault). wants_more r) is ∙ sym (ap (λ (r : Result (X × Spot) ByteFault). wants_more (r >>= λ r. b (place s) r.0 r.1)) is) ∙ e in
          let more = first.goes_on s wants in
          next more.0 more.1 more.2 (a (with_more s more.0)) refl
        where
          next : (more : List ℕ) → AreBytes more → wants_more (a (with_more s more)) ≡ false → (r : Result (X × Spot) ByteFault) → a (with_more s more) ≡ r
              → (more : List ℕ) × AreBytes more × (wants_more (after_step a b (with_more s more)) ≡ false)
          next more fits enough (Ok (x, mid)) is = more_for_second s more fits x mid is
          next more fits enough (Err g) is =
              let plain : is_ended g ≡ false = sym (ap (λ (r : Result (X × Spot) ByteFault). wants_more r) is) ∙ enough in
              (more, fits, ap (λ (r : Result (X × Spot) ByteFault). wants_more (r >>= λ r. b (place (with_more s more)) r.0 r.1)) is ∙ plain)

  pub then_steady : IsSteady (after_step a b)
  then_steady = record { ahead = then_ahead; stays = then_stays; refused = then_refused; end = then_end; goes_on = then_goes_on }

-- ---- where faults stand

-- A reading that goes on, whose faults stand at bytes from a given place on.
pub record IsLocalFrom {X : Type 0} (start : ℕ) (read : Spot → Result (X × Spot) ByteFault) : Type 0 where
  pub steady : IsSteady read
  pub inside : (s : Spot) (f : ByteFault) → length s.left ≤ s.end → start ≤ place s → start < s.end → read s ≡ Err f → is_ended f ≡ false → IsAmong start s.end f

-- a step that takes a byte at least
abbrev pub TakesSome : {X : Type 0} → (Spot → Result (X × Spot) ByteFault) → Type 0
TakesSome {X} read = (s after : Spot) (x : X) → read s ≡ Ok (x, after) → length after.left < length s.left

pub from_local : {X : Type 0} (start : ℕ) (read : Spot → Result (X × Spot) ByteFault) → IsLocal read → IsLocalFrom start read
from_local start read local = record {
  steady = local.steady;
  inside = λ s f fits le lt e plain. among_from (place s) start s.end s.end f le refl (local.inside s f fits e plain);
}

module _ {X Y : Type 0} (a : Spot → Result (X × Spot) ByteFault) where
  -- what follows may tell the place where the step began
  pub then_from : (b : ℕ → X → Spot → Result (Y × Spot) ByteFault) → IsLocal a → TakesSome a → ((start : ℕ) (x : X) → IsLocalFrom start (b start x)) → IsLocal (after_step a b)
  then_from b first some second = record {
    steady = then_steady a b first.steady (λ start x. (second start x).steady);
    inside = λ s f fits e plain. elim (bind_err (a s) (λ r. b (place s) r.0 r.1) f e) [
      | inl one ↦ first.inside s f fits one plain
      | inr two ↦
          let ahead = first.steady.ahead s two.0.1 two.0.0 two.1 in
          let taken = some s two.0.1 two.0.0 two.1 in
          among_from (place s) (place s) two.0.1.end s.end f (omega arith) ahead.same_end
          ((second (place s) two.0.0).inside two.0.1 f (ahead_fits s two.0.1 ahead fits) (ahead_place s two.0.1 ahead) (omega (arith, ahead.same_end, taken, fits)) two.2 plain)
    ];
  }

  -- the value may tell that place too
  pub then_placed : (b : ℕ → X → Spot → Result (Y × Spot) ByteFault) → IsLocal a → ((start : ℕ) (x : X) → IsLocal (b start x)) → IsLocal (after_step a b)
  then_placed b first second = record {
    steady = then_steady a b first.steady (λ start x. (second start x).steady);
    inside = λ s f fits e plain. elim (bind_err (a s) (λ r. b (place s) r.0 r.1) f e) [
      | inl one ↦ first.inside s f fits one plain
      | inr two ↦
          let ahead = first.steady.ahead s two.0.1 two.0.0 two.1 in
          among_from (place two.0.1) (place s) two.0.1.end s.end f (ahead_place s two.0.1 ahead) ahead.same_end
          ((second (place s) two.0.0).inside two.0.1 f (ahead_fits s two.0.1 ahead fits) two.2 plain)
    ];
  }

  pub then_local : (b : X → Spot → Result (Y × Spot) ByteFault) → IsLocal a → ((x : X) → IsLocal (b x)) → IsLocal (λ s. a s >>= λ r. b r.0 r.1)
  then_local b first second = then_placed (λ start. b) first (λ start. second)

  pub from_then : (start : ℕ) (b : X → Spot → Result (Y × Spot) ByteFault) → IsLocal a → ((x : X) → IsLocalFrom start (b x)) → IsLocalFrom start (λ s. a s >>= λ r. b r.0 r.1)
  from_then start b first second = record {
    steady = then_steady a (λ start. b) first.steady (λ start x. (second x).steady);
    inside = λ s f fits le lt e plain. elim (bind_err (a s) (λ r. b r.0 r.1) f e) [
      | inl one ↦ among_from (place s) start s.end s.end f le refl (first.inside s f fits one plain)
      | inr two ↦
          let ahead = first.steady.ahead s two.0.1 two.0.0 two.1 in
          let before = ahead_place s two.0.1 ahead in
          among_from start start two.0.1.end s.end f (omega arith) ahead.same_end
          ((second two.0.0).inside two.0.1 f (ahead_fits s two.0.1 ahead fits) (omega (arith, le, before)) (omega (arith, lt, ahead.same_end)) two.2 plain)
    ];
  }

-- a fault that stands where a step began
abbrev pub StandsAt : ℕ → ByteFault → Type 0
StandsAt start f = IfSome (place_of_fault f) (λ at. at ≡ start) × (is_ended f ≡ false)

stands_among : (start end : ℕ) (f : ByteFault) → start < end → StandsAt start f → IsAmong start end f
stands_among start end f lt stands = by (place_of_fault f) stands.0
  where
    by : (o : Option ℕ) → IfSome o (λ at. at ≡ start) → IfSome o (λ at. (start ≤ at) × (at < end))
    by (Some at) is = (omega (arith, is), omega (arith, is, lt))
    by None is = tt

-- a value that was judged, where a fault stands at the start
pub from_judged : {A X : Type 0} (start : ℕ) (r : Result A ByteFault) (b : A → Spot → Result (X × Spot) ByteFault) → ((f : ByteFault) → r ≡ Err f → StandsAt start f) → ((x : A) → IsLocalFrom start (b x))
    → IsLocalFrom start (λ s. r >>= λ x. b x s)
from_judged start (Ok x) b stands goes = record { steady = (goes x).steady; inside = (goes x).inside }
from_judged start (Err g) b stands goes = record {
  steady = record {
    ahead = λ s after y e. absurd cc;
    stays = λ s after y more e. absurd cc;
    refused = λ s f more e plain. e;
    end = λ s at e. absurd (let is : g ≡ Ended at = fault_is g (Ended at) e in let plain = (stands g refl).1 in cc);
    goes_on = λ s e. absurd (let plain = (stands g refl).1 in cc);
  };
  inside = λ s f fits le lt e plain. stands_among start s.end f lt (subst (StandsAt start) (fault_is g f e) (stands g refl));
}

pub demand_fault : (c : Bool) (f g : ByteFault) → demand c f ≡ Err g → f ≡ g
demand_fault true f g e = absurd cc
demand_fault false f g e = fault_is f g e

pub or_fault_fault : {A : Type 0} (o : Option A) (f g : ByteFault) → or_fault f o ≡ Err g → f ≡ g
or_fault_fault (Some x) f g e = absurd cc
or_fault_fault None f g e = fault_is f g e

pub from_demand : {X : Type 0} (start : ℕ) (c : Bool) (f : ByteFault) (b : Spot → Result (X × Spot) ByteFault) → StandsAt start f → IsLocalFrom start b → IsLocalFrom start (λ s. demand c f >>= λ met. b s)
from_demand start c f b stands goes = from_judged start (demand c f) (λ met. b) (λ g e. subst (StandsAt start) (demand_fault c f g e) stands) (λ met. goes)

pub from_or : {A X : Type 0} (start : ℕ) (f : ByteFault) (o : Option A) (b : A → Spot → Result (X × Spot) ByteFault) → StandsAt start f → ((x : A) → IsLocalFrom start (b x))
    → IsLocalFrom start (λ s. or_fault f o >>= λ x. b x s)
from_or start f o b stands goes = from_judged start (or_fault f o) b (λ g e. subst (StandsAt start) (or_fault_fault o f g e) stands) goes

pub from_done : {X : Type 0} (start : ℕ) (x : X) → IsLocalFrom start (λ s. Ok (x, s))
from_done start x = from_local start (λ s. Ok (x, s)) (done_local x)

pub some_then : {X Y : Type 0} (a : Spot → Result (X × Spot) ByteFault) (b : ℕ → X → Spot → Result (Y × Spot) ByteFault) → TakesSome a → ((start : ℕ) (x : X) → IsSteady (b start x)) → TakesSome (after_step a b)
some_then a b some second s after y e =
    let step = bind_ok (a s) (λ r. b (place s) r.0 r.1) (y, after) e in
    let ahead = (second (place s) step.0.0).ahead step.0.1 after y step.2 in
    omega (arith, some s step.0.1 step.0.0 step.1, ap length ahead.behind, length-append ahead.front after.left)

-- ---- counted lists

pub many_local : {X K : Type 0} (one : K → Spot → Result (X × Spot) ByteFault) (next : X → K) → ((k : K) → IsLocal (one k)) → (n : ℕ) (k : K) → IsLocal (many one next n k)
unfolding many
many_local one next local zero k = done_local []
many_local one next local (suc n) k =
    then_local (one k) (λ x s. many one next n (next x) s >>= λ others. Ok (x ∷ others.0, others.1)) (local k)
    (λ x. then_local (many one next n (next x)) (λ xs s. Ok (x ∷ xs, s)) (many_local one next local n (next x)) (λ xs. done_local (x ∷ xs)))
