-- Readers of a block that depend only on the bytes up to where they end: a reading of such steps is one.
use Rattle.std.proofs.Common.{◌≡◌, ℕ, Bool, true, false, List, [], ◌++◌, Result, Ok, Err, refl, sym, ap, subst, ◌∙◌, inl, inr, ◌⊎◌, append_assoc}
use Rattle.std.proofs.lemmas.List.{append-nil}
use Rattle.wire_bytes.specs.declared.fault.ByteFault.TheVariants.{Ended}
use Rattle.wire_bytes.specs.Reading.{Spot, place, ◌>>=◌}
use Rattle.wire_bytes.specs.Local.{with_more, IsAhead, is_ended, AreBytes}
use Rattle.wire_bytes.proofs.Steps.{bind_ok}
use Rattle.wire_bytes.proofs.LocalLemmas.{place_more, more_twice, AreBytes-append, ahead_here, ahead_on}
use Rattle.decl_spelling.specs.declared.mention.Mention.{Mention}
use Rattle.decl_spelling.specs.Reading.{Ahead, Reader, Stopped}
use Rattle.decl_locality.specs.LocalReaders.{longer, named_by, wants_more, Continues, IsSteady}

-- ---- what is named

pub names_here : (ms : List Mention) → Continues ms ms
names_here ms = ([], sym (append-nil ms))

pub names_on : (a b c : List Mention) → Continues a b → Continues b c → Continues a c
names_on a b c first second =
    (first.0 ++ second.0, second.1 ∙ ap (λ ms. ms ++ second.0) first.1 ∙ append_assoc a first.0 second.0)

-- ---- the fault of two steps

abbrev pub stopped_with : (A : Type 0) → Stopped → Result A Stopped
stopped_with A s = Err s

pub stop_is : {A : Type 0} (s t : Stopped) → stopped_with A s ≡ stopped_with A t → s ≡ t
stop_is s t e = cc

abbrev pub read_with : (A : Type 0) → A → Result A Stopped
read_with A x = Ok x

pub read_is : {A : Type 0} (x y : A) → read_with A x ≡ read_with A y → x ≡ y
read_is x y e = cc

pub bind_stop : {A B : Type 0} (r : Result A Stopped) (k : A → Result B Stopped) (s : Stopped) → (r >>= k) ≡ Err s
    → (r ≡ Err s) ⊎ ((x : A) × (r ≡ Ok x) × (k x ≡ Err s))
bind_stop (Ok x) k s e = inr (x, refl, e)
bind_stop (Err t) k s e = inl (ap (λ s. stopped_with _ s) (stop_is t s e))

pub longer_twice : (a : Ahead) (some more : List ℕ) → longer (longer a some) more ≡ longer a (some ++ more)
longer_twice a some more =
    ap (λ (s : Spot). record { spot = s; before = a.before; mentions = a.mentions }) (more_twice a.spot some more)

-- the same reader by another chain of steps
pub same_steady : {X : Type 0} (p q : Reader X) → ((a : Ahead) → p a ≡ q a) → IsSteady p → IsSteady q
same_steady {X} p q same = subst (λ (r : Reader X). IsSteady r) (λ i a. same a i)

module _ {X : Type 0} where
  pub done_steady : (x : X) → IsSteady (λ a. Ok (x, a))
  done_steady x = record {
    ahead = λ a b y e. subst (λ (p : X × Ahead). IsAhead a.spot p.1.spot) (read_is (x, a) (y, b) e) (ahead_here a.spot);
    names = λ a. names_here a.mentions;
    stays = λ a b y more e. ap (λ (p : X × Ahead). Ok (p.0, longer p.1 more)) (read_is (x, a) (y, b) e);
    refused = λ a s more e plain. absurd cc;
    end = λ a s at e is. absurd cc;
    still_named = λ a s more e. absurd cc;
    goes_on = λ a e. absurd cc;
  }

-- what a step is followed by, which may tell the place where the step began
abbrev pub after : {X Y : Type 0} → Reader X → (ℕ → X → Reader Y) → Reader Y
after p q a = p a >>= λ r. q (place a.spot) r.0 r.1

module _ {X Y : Type 0} (p : Reader X) (q : ℕ → X → Reader Y) (first : IsSteady p) (second : (start : ℕ) (x : X) → IsSteady (q start x)) where
  on_from : ℕ → Result (X × Ahead) Stopped → Result (Y × Ahead) Stopped
  on_from start r = r >>= λ r. q start r.0 r.1

  -- the first step is over
  step_on : (a mid : Ahead) (x : X) (more : List ℕ) → p a ≡ Ok (x, mid) → after p q (longer a more) ≡ q (place a.spot) x (longer mid more)
  step_on a mid x more e =
      ap (λ (r : Result (X × Ahead) Stopped). r >>= λ r. q (place (with_more a.spot more)) r.0 r.1) (first.stays a mid x more e)
      ∙ ap (λ (n : ℕ). q n x (longer mid more)) (place_more a.spot more)

  -- what is named goes on from what the first step named
  names_from : (old : List Mention) (start : ℕ) (r : Result (X × Ahead) Stopped) → Continues old (named_by r) → Continues old (named_by (r >>= λ r. q start r.0 r.1))
  names_from old start (Ok (x, mid)) one = names_on old mid.mentions (named_by (q start x mid)) one ((second start x).names mid)
  names_from old start (Err s) one = one

  then_ahead : (a b : Ahead) (y : Y) → after p q a ≡ Ok (y, b) → IsAhead a.spot b.spot
  then_ahead a b y e =
      let step = bind_ok (p a) (λ r. q (place a.spot) r.0 r.1) (y, b) e in
      ahead_on a.spot step.0.1.spot b.spot (first.ahead a step.0.1 step.0.0 step.1) ((second (place a.spot) step.0.0).ahead step.0.1 b y step.2)

  then_stays : (a b : Ahead) (y : Y) (more : List ℕ) → after p q a ≡ Ok (y, b) → after p q (longer a more) ≡ Ok (y, longer b more)
  then_stays a b y more e =
      let step = bind_ok (p a) (λ r. q (place a.spot) r.0 r.1) (y, b) e in
      step_on a step.0.1 step.0.0 more step.1 ∙ (second (place a.spot) step.0.0).stays step.0.1 b y more step.2

  then_refused : (a : Ahead) (s : Stopped) (more : List ℕ) → after p q a ≡ Err s → is_ended s.fault ≡ false → after p q (longer a more) ≡ Err s
  then_refused a s more e plain =
      elim (bind_stop (p a) (λ r. q (place a.spot) r.0 r.1) s e) [
        | inl one ↦ ap (λ (r : Result (X × Ahead) Stopped). r >>= λ r. q (place (with_more a.spot more)) r.0 r.1) (first.refused a s more one plain)
        | inr two ↦ step_on a two.0.1 two.0.0 more two.1 ∙ (second (place a.spot) two.0.0).refused two.0.1 s more two.2 plain
      ]

  then_end : (a : Ahead) (s : Stopped) (at : ℕ) → after p q a ≡ Err s → s.fault ≡ Ended at → at ≡ a.spot.end
  then_end a s at e is =
      elim (bind_stop (p a) (λ r. q (place a.spot) r.0 r.1) s e) [
        | inl one ↦ first.end a s at one is
        | inr two ↦ (second (place a.spot) two.0.0).end two.0.1 s at two.2 is ∙ (first.ahead a two.0.1 two.0.0 two.1).same_end
      ]

  then_still : (a : Ahead) (s : Stopped) (more : List ℕ) → after p q a ≡ Err s → Continues s.mentions (named_by (after p q (longer a more)))
  then_still a s more e =
      elim (bind_stop (p a) (λ r. q (place a.spot) r.0 r.1) s e) [
        | inl one ↦ names_from s.mentions (place (with_more a.spot more)) (p (longer a more)) (first.still_named a s more one)
        | inr two ↦
            subst (λ (r : Result (Y × Ahead) Stopped). Continues s.mentions (named_by r)) (sym (step_on a two.0.1 two.0.0 more two.1))
            ((second (place a.spot) two.0.0).still_named two.0.1 s more two.2)
      ]

  -- the first step needs no more bytes than these, and the second one some
  more_for_second : (a : Ahead) (more : List ℕ) → AreBytes more → (x : X) (mid : Ahead) → p (longer a more) ≡ Ok (x, mid)
      → (more : List ℕ) × AreBytes more × (wants_more (after p q (longer a more)) ≡ false)
  more_for_second a more fits x mid e = by (wants_more (q (place (with_more a.spot more)) x mid)) refl
    where
      by : (w : Bool) → wants_more (q (place (with_more a.spot more)) x mid) ≡ w → (more : List ℕ) × AreBytes more × (wants_more (after p q (longer a more)) ≡ false)
      by false is = (more, fits, ap (λ (r : Result (X × Ahead) Stopped). wants_more (r >>= λ r. q (place (with_more a.spot more)) r.0 r.1)) e ∙ is)
      by true is =
          let rest = (second (place (with_more a.spot more)) x).goes_on mid is in (
            more ++ rest.0,
            AreBytes-append more rest.0 fits rest.1,
            ap (λ (t : Ahead). wants_more (after p q t)) (sym (longer_twice a more rest.0))
                ∙ ap (λ (r : Result (Y × Ahead) Stopped). wants_more r) (step_on (longer a more) mid x rest.0 e)
                ∙ rest.2,
          )

  then_goes_on : (a : Ahead) → wants_more (after p q a) ≡ true → (more : List ℕ) × AreBytes more × (wants_more (after p q (longer a more)) ≡ false)
  then_goes_on a e = by (p a) refl
    where
      by : (r : Result (X × Ahead) Stopped) → p a ≡ r → (more : List ℕ) × AreBytes more × (wants_more (after p q (longer a more)) ≡ false)
      by (Ok (x, mid)) is =
          let wants : wants_more (q (place a.spot) x mid) ≡ true = sym (ap (λ (r : Result (X × Ahead) Stopped). wants_more (r >>= λ r. q (place a.spot) r.0 r.1)) is) ∙ e in
          let rest = (second (place a.spot) x).goes_on mid wants in
          (rest.0, rest.1, ap (λ (r : Result (Y × Ahead) Stopped). wants_more r) (step_on a mid x rest.0 is) ∙ rest.2)
      by (Err s) is =
          let wants : wants_more (p a) ≡ true = ap (λ (r : Result (X × Ahead) Stopped). wants_more r) is ∙ sym (ap (λ (r : Result (X × Ahead) Stopped). wants_more (r >>= λ r. q (place a.spot) r.0 r.1)) is) ∙ e in
          let more = first.goes_on a wants in
          next more.0 more.1 more.2 (p (longer a more.0)) refl
        where
          next : (more : List ℕ) → AreBytes more → wants_more (p (longer a more)) ≡ false → (r : Result (X × Ahead) Stopped) → p (longer a more) ≡ r
              → (more : List ℕ) × AreBytes more × (wants_more (after p q (longer a more)) ≡ false)
          next more fits enough (Ok (x, mid)) is = more_for_second a more fits x mid is
          next more fits enough (Err s) is =
              let plain : is_ended s.fault ≡ false = sym (ap (λ (r : Result (X × Ahead) Stopped). wants_more r) is) ∙ enough in
              (more, fits, ap (λ (r : Result (X × Ahead) Stopped). wants_more (r >>= λ r. q (place (with_more a.spot more)) r.0 r.1)) is ∙ plain)

  pub then_steady : IsSteady (after p q)
  then_steady = record {
    ahead = then_ahead;
    names = λ a. names_from a.mentions (place a.spot) (p a) (first.names a);
    stays = then_stays;
    refused = then_refused;
    end = then_end;
    still_named = then_still;
    goes_on = then_goes_on;
  }
