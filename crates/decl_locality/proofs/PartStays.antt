-- A part of a declaration with the types that it names.
use Rattle.std.proofs.Common.{◌≡◌, ℕ, Bool, true, false, List, [], ◌∷◌, ◌++◌, Result, Ok, Err, refl, sym, ap, subst, ◌∙◌, inl, inr}
use Rattle.wire_bytes.specs.declared.fault.ByteFault.{ByteFault}
use Rattle.wire_bytes.specs.declared.fault.ByteFault.TheVariants as faults
use Rattle.wire_bytes.specs.Reading.{◌>>=◌}
use Rattle.wire_bytes.specs.Local.{is_ended, AreBytes, wants_more as wants}
use Rattle.wire_bytes.proofs.LocalLemmas.{bind_err, fault_is}
use Rattle.wire_bytes.proofs.Steps.{bind_ok, done_is}
use Rattle.decl_spelling.specs.declared.mention.Mention.{Mention}
use Rattle.decl_spelling.specs.Sections.{Sections}
use Rattle.decl_spelling.specs.Reading.{Ahead, Reader, Stopped}
use Rattle.decl_spelling.specs.Tables.{Table}
use Rattle.decl_spelling.specs.Descent.{ReadsBlock, resolve, resolve_all, block_at}
use Rattle.decl_spelling.specs.Declarations.{resolved, fault_alone}
use Rattle.decl_spelling.proofs.Bounds.{NotEnded, not_ended}
use Rattle.decl_locality.specs.LocalReaders.{longer, named_by, wants_more, IsSteady}
use Rattle.decl_locality.proofs.Settling.{IsPart}

plain_of : (X : Type 0) (f : ByteFault) → NotEnded {X = X} (Err f) → is_ended f ≡ false
plain_of X (faults.Ended at) not = absurd not
plain_of X (faults.Number at) not = refl
plain_of X (faults.Range at value) not = refl
plain_of X (faults.Tag at value) not = refl
plain_of X (faults.Order at) not = refl
plain_of X (faults.Version found) not = refl
plain_of X (faults.Wide at) not = refl
plain_of X (faults.Float at) not = refl
plain_of X (faults.NotConst at) not = refl
plain_of X (faults.Trailing at) not = refl

-- mentions, and then others
resolve_append : (src : Sections) (read : ReadsBlock) (holder : ℕ) (ms ns : List Mention) (done : Table)
    → resolve_all src read holder (ms ++ ns) done ≡ (resolve_all src read holder ms done >>= resolve_all src read holder ns)
resolve_append src read holder [] ns done = refl
resolve_append src read holder (m ∷ ms) ns done = by (resolve src read holder m done) (λ known. resolve_append src read holder ms ns known)
  where
    by : (r : Result Table ByteFault) → ((known : Table) → resolve_all src read holder (ms ++ ns) known ≡ (resolve_all src read holder ms known >>= resolve_all src read holder ns))
        → (r >>= resolve_all src read holder (ms ++ ns)) ≡ ((r >>= resolve_all src read holder ms) >>= resolve_all src read holder ns)
    by (Ok known) later = later known
    by (Err f) later = refl

abbrev pub end_ahead : Ahead → ℕ
end_ahead a = a.spot.end

-- ---- a block's own bytes alone

abbrev pub grow_value : {X : Type 0} → X × Ahead → List ℕ → X × Ahead
grow_value x more = (x.0, longer x.1 more)

abbrev pub end_value : {X : Type 0} → X × Ahead → ℕ
end_value x = x.1.spot.end

module _ {X : Type 0} (read : Reader X) (steady : IsSteady read) where
  alone_ok : (r : Result (X × Ahead) Stopped) (x : X × Ahead) → fault_alone r ≡ Ok x → r ≡ Ok x
  alone_ok (Ok y) x e = ap (λ (y : X × Ahead). Ok y) (done_is y x e)
  alone_ok (Err s) x e = absurd cc

  alone_fails : (r : Result (X × Ahead) Stopped) (f : ByteFault) → fault_alone r ≡ Err f → (s : Stopped) × (r ≡ Err s) × (s.fault ≡ f)
  alone_fails (Ok y) f e = absurd cc
  alone_fails (Err s) f e = (s, refl, fault_is s.fault f e)

  alone_wants : (r : Result (X × Ahead) Stopped) → wants (fault_alone r) ≡ wants_more r
  alone_wants (Ok y) = refl
  alone_wants (Err s) = refl

  pub alone_part : IsPart longer end_ahead grow_value end_value (λ a. fault_alone (read a))
  alone_part = record {
    stays = λ a w more e. ap (λ (r : Result (X × Ahead) Stopped). fault_alone r) (steady.stays a w.1 w.0 more (alone_ok (read a) w e));
    refused = λ a f more e plain.
        let w = alone_fails (read a) f e in
        ap (λ (r : Result (X × Ahead) Stopped). fault_alone r) (steady.refused a w.0 more w.1 (ap is_ended w.2 ∙ plain)) ∙ ap (λ (f : ByteFault). Err f) w.2;
    end = λ a at e. let w = alone_fails (read a) (faults.Ended at) e in steady.end a w.0 at w.1 w.2;
    same_end = λ a w e. (steady.ahead a w.1 w.0 (alone_ok (read a) w e)).same_end;
    goes_on = λ a e.
        let more = steady.goes_on a (sym (alone_wants (read a)) ∙ e) in
        (more.0, more.1, alone_wants (read (longer a more.0)) ∙ more.2);
  }

-- ---- with the types that it names

-- what is left for the next part
abbrev handed_on : Ahead → Ahead
handed_on b = record { spot = b.spot; before = b.before; mentions = [] }

abbrev pub Typed : Type 0 → Type 0
Typed X = (X × Ahead) × Table

abbrev pub grow_typed : {X : Type 0} → Typed X → List ℕ → Typed X
grow_typed w more = ((w.0.0, longer w.0.1 more), w.1)

abbrev pub end_typed : {X : Type 0} → Typed X → ℕ
end_typed w = w.0.1.spot.end

module _ (src : Sections) (offset : ℕ) (done : Table) where
  abbrev known_by : List Mention → Result Table ByteFault
  known_by ms = resolve_all src (block_at src offset) offset ms done

  known_plain : (ms : List Mention) (f : ByteFault) → known_by ms ≡ Err f → is_ended f ≡ false
  known_plain ms f e = plain_of Table f (subst (λ (r : Result Table ByteFault). NotEnded r) e (not_ended src (block_at src offset) offset ms done))

  known_never : {P : Type 0} (ms : List Mention) (at : ℕ) → known_by ms ≡ Err (faults.Ended at) → P
  known_never ms at e = absurd (let plain = known_plain ms (faults.Ended at) e in cc)

  module _ {X : Type 0} where
    abbrev made : X → Ahead → Table → Typed X
    made x b known = ((x, handed_on b), known)

    abbrev finishing : X → Ahead → Table → Result (Typed X) ByteFault
    finishing x b known = Ok (made x b known)

    abbrev failing : Stopped → Table → Result (Typed X) ByteFault
    failing s known = Err s.fault

    -- where more is named, a fault of the types that were named before stays
    fails_by : (r : Result (X × Ahead) Stopped) (ms later : List Mention) (f : ByteFault) → named_by r ≡ ms ++ later → known_by ms ≡ Err f → resolved src offset r done ≡ Err f
    fails_by r ms later f named e = by r named
      where
        whole : known_by (ms ++ later) ≡ Err f
        whole = resolve_append src (block_at src offset) offset ms later done ∙ ap (λ (k : Result Table ByteFault). k >>= resolve_all src (block_at src offset) offset later) e

        by : (r : Result (X × Ahead) Stopped) → named_by r ≡ ms ++ later → resolved src offset r done ≡ Err f
        by (Ok (x, b)) named = ap (λ (ms : List Mention). known_by ms >>= finishing x b) named ∙ ap (λ (k : Result Table ByteFault). k >>= finishing x b) whole
        by (Err s) named = ap (λ (ms : List Mention). known_by ms >>= failing s) named ∙ ap (λ (k : Result Table ByteFault). k >>= failing s) whole

    settled_wants : (r : Result (X × Ahead) Stopped) → wants_more r ≡ false → wants (resolved src offset r done) ≡ false
    settled_wants (Ok (x, b)) e = by (known_by b.mentions) refl
      where
        by : (k : Result Table ByteFault) → known_by b.mentions ≡ k → wants (k >>= finishing x b) ≡ false
        by (Ok known) is = refl
        by (Err f) is = known_plain b.mentions f is
    settled_wants (Err s) e = by (known_by s.mentions) refl
      where
        by : (k : Result Table ByteFault) → known_by s.mentions ≡ k → wants (k >>= failing s) ≡ false
        by (Ok known) is = e
        by (Err f) is = known_plain s.mentions f is

  module _ {X : Type 0} (read : Reader X) (steady : IsSteady read) where
    abbrev part : Ahead → Result (Typed X) ByteFault
    part a = resolved src offset (read a) done

    part_stays : (a : Ahead) (w : Typed X) (more : List ℕ) → part a ≡ Ok w → part (longer a more) ≡ Ok (grow_typed w more)
    part_stays a w more e = by (read a) refl e
      where
        by : (r : Result (X × Ahead) Stopped) → read a ≡ r → resolved src offset r done ≡ Ok w → part (longer a more) ≡ Ok (grow_typed w more)
        by (Ok (x, b)) is e =
            let known = bind_ok (known_by b.mentions) (finishing x b) w e in
            ap (λ (r : Result (X × Ahead) Stopped). resolved src offset r done) (steady.stays a b x more is)
            ∙ ap (λ (k : Result Table ByteFault). k >>= finishing x (longer b more)) known.1
            ∙ ap (λ (w : Typed X). Ok (grow_typed w more)) (done_is (made x b known.0) w known.2)
        by (Err s) is e = let known = bind_ok (known_by s.mentions) (failing s) w e in absurd (let no = known.2 in cc)

    part_refused : (a : Ahead) (f : ByteFault) (more : List ℕ) → part a ≡ Err f → is_ended f ≡ false → part (longer a more) ≡ Err f
    part_refused a f more e plain = by (read a) refl e
      where
        by : (r : Result (X × Ahead) Stopped) → read a ≡ r → resolved src offset r done ≡ Err f → part (longer a more) ≡ Err f
        by (Ok (x, b)) is e = elim (bind_err (known_by b.mentions) (finishing x b) f e) [
          | inl one ↦
              ap (λ (r : Result (X × Ahead) Stopped). resolved src offset r done) (steady.stays a b x more is)
              ∙ ap (λ (k : Result Table ByteFault). k >>= finishing x (longer b more)) one
          | inr two ↦ absurd (let no = two.2 in cc)
        ]
        by (Err s) is e = elim (bind_err (known_by s.mentions) (failing s) f e) [
          | inl one ↦ let later = steady.still_named a s more is in fails_by (read (longer a more)) s.mentions later.0 f later.1 one
          | inr two ↦
              let same = fault_is s.fault f two.2 in
              ap (λ (r : Result (X × Ahead) Stopped). resolved src offset r done) (steady.refused a s more is (ap is_ended same ∙ plain)) ∙ e
        ]

    part_end : (a : Ahead) (at : ℕ) → part a ≡ Err (faults.Ended at) → at ≡ a.spot.end
    part_end a at e = by (read a) refl e
      where
        by : (r : Result (X × Ahead) Stopped) → read a ≡ r → resolved src offset r done ≡ Err (faults.Ended at) → at ≡ a.spot.end
        by (Ok (x, b)) is e = elim (bind_err (known_by b.mentions) (finishing x b) (faults.Ended at) e) [
          | inl one ↦ known_never b.mentions at one
          | inr two ↦ absurd (let no = two.2 in cc)
        ]
        by (Err s) is e = elim (bind_err (known_by s.mentions) (failing s) (faults.Ended at) e) [
          | inl one ↦ known_never s.mentions at one
          | inr two ↦ steady.end a s at is (fault_is s.fault (faults.Ended at) two.2)
        ]

    part_same_end : (a : Ahead) (w : Typed X) → part a ≡ Ok w → end_typed w ≡ a.spot.end
    part_same_end a w e = by (read a) refl e
      where
        by : (r : Result (X × Ahead) Stopped) → read a ≡ r → resolved src offset r done ≡ Ok w → end_typed w ≡ a.spot.end
        by (Ok (x, b)) is e =
            let known = bind_ok (known_by b.mentions) (finishing x b) w e in
            sym (ap end_typed (done_is (made x b known.0) w known.2)) ∙ (steady.ahead a b x is).same_end
        by (Err s) is e = let known = bind_ok (known_by s.mentions) (failing s) w e in absurd (let no = known.2 in cc)

    part_goes_on : (a : Ahead) → wants (part a) ≡ true → (more : List ℕ) × AreBytes more × (wants (part (longer a more)) ≡ false)
    part_goes_on a e = by (wants_more (read a)) refl
      where
        by : (b : Bool) → wants_more (read a) ≡ b → (more : List ℕ) × AreBytes more × (wants (part (longer a more)) ≡ false)
        by true is = let more = steady.goes_on a is in (more.0, more.1, settled_wants (read (longer a more.0)) more.2)
        by false is = absurd (let no = settled_wants (read a) is in cc)

    pub resolved_part : IsPart longer end_ahead grow_typed end_typed part
    resolved_part = record { stays = part_stays; refused = part_refused; end = part_end; same_end = part_same_end; goes_on = part_goes_on }
