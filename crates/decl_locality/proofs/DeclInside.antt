-- The fault of a declaration stands in the data section.
use Rattle.std.proofs.Common.{◌≡◌, ℕ, zero, suc, ◌+◌, ◌-◌, ◌<◌, ◌≤◌, Bool, true, false, cond, List, [], ◌∷◌, ◌++◌, length, Option, Some, None, Result, Ok, Err, nat_lt, nat_le, is_some, refl, sym, ap, subst, ◌∙◌, arith, inl, inr}
use Rattle.std.specs.Prelude.{IfSome}
use Rattle.std.specs.List.{AllByRecursion}
use Rattle.std.proofs.lemmas.Bool.{ltb-true}
use Rattle.code_tables.specs.declared.declarations.DeclTag.{DeclTag}
use Rattle.code_tables.specs.declared.declarations.DeclTag.TheVariants.{Var, Func, GenericFunc, Const as ConstTag, Defined, GenericDefined, Alias, GenericAlias, TypeParameter}
use Rattle.code_tables.specs.declared.predeclared.Basic.{Basic}
use Rattle.wire_bytes.specs.declared.fault.ByteFault.{ByteFault}
use Rattle.wire_bytes.specs.declared.fault.ByteFault.TheVariants as faults
use Rattle.wire_bytes.specs.Reading.{Spot, place, ◌>>=◌, demand, byte_at}
use Rattle.wire_bytes.specs.Local.{IsAhead, place_of_fault, is_ended, IsAmong}
use Rattle.wire_bytes.proofs.LocalLemmas.{ahead_fits, ahead_place, bind_err, fault_is, demand_fault}
use Rattle.wire_bytes.proofs.NumbersLocal.{byte_local}
use Rattle.wire_bytes.proofs.Steps.{bind_ok, done_is}
use Rattle.type_terms.specs.Declarations.{var_of, function_of, constant_of, renamed_of, type_parameter_of}
use Rattle.decl_spelling.specs.declared.mention.Mention.{Mention}
use Rattle.decl_spelling.specs.declared.mention.Demand.{Demand}
use Rattle.decl_spelling.specs.declared.mention.Demand.TheVariants.{Any, Parameter, Underlying, Base, NoParameter, Interface}
use Rattle.decl_spelling.specs.Sections.{Sections, Basics, window}
use Rattle.decl_spelling.specs.Spelled.{SpelledType, SpelledConst, without_pos}
use Rattle.decl_spelling.specs.Codes.{basic_of, decl_tag_of}
use Rattle.decl_spelling.specs.Reading.{Ahead, Reader, Stopped, start, or_stop, plain, number_at, truth_at, pos_at, mentioned, type_at, list_at}
use Rattle.decl_spelling.specs.Descriptors.{Flat, sig_at, flat_at}
use Rattle.decl_spelling.specs.Tables.{Finished, Table, at, free_to, with_block, type_named, type_spelled, tree_spelled}
use Rattle.decl_spelling.specs.Descent.{ReadsBlock, meets, unmet, named_at, found_or_read, with_descriptor, with_basic, with_type, resolve, resolve_all, finish, block_at, offset_of}
use Rattle.decl_spelling.specs.Constants.{Spelling, Kind, spelled, floating, none, kind_of, spelling_by, spelling_at, basic_type, value_at}
use Rattle.decl_spelling.specs.Declarations.{Head, whole, of_type, of_constant, tparams_at, var_at, func_decl_at, generic_func_at, constant_at, defined_at, generic_defined_at, alias_at, generic_alias_at, constraint_demand, parameter_at, head_by, head_at, receiver_at, resolved, has_methods, read, methods_of, after_type, fault_alone, after_head, decl_of}
use Rattle.decl_spelling.proofs.Windows.{part_length}
use Rattle.decl_locality.specs.LocalReaders.{IsAskedAmong, IsNamedAmong, AreNamedAmong, StaysAmong, IsLocal}
use Rattle.decl_locality.proofs.SteadyLemmas.{read_is}
use Rattle.decl_locality.proofs.DescriptorReaders.{flat_local}
use Rattle.decl_locality.proofs.BaseReaders.{plain_local, number_some, pos_local}
use Rattle.decl_locality.proofs.DeclarationReaders.{head_local, receivers_local, value_local}
use Rattle.decl_locality.proofs.BlockStays.{free_within}
use Rattle.decl_locality.proofs.PartStays.{Typed}
use Rattle.decl_locality.proofs.DeclStays.{read_from, decl_from, at_block, after_typed}

-- ---- wider places

among_wider : (from less end more : ℕ) (f : ByteFault) → less ≤ from → end ≤ more → IsAmong from end f → IsAmong less more f
among_wider from less end more f low high among = by (place_of_fault f) among
  where
    by : (o : Option ℕ) → IfSome o (λ at. (from ≤ at) × (at < end)) → IfSome o (λ at. (less ≤ at) × (at < more))
    by (Some at) among = (omega (arith, among.0, low), omega (arith, among.1, high))
    by None among = tt

asked_wider : (from less end more : ℕ) (asked : Demand) → less ≤ from → end ≤ more → IsAskedAmong from end asked → IsAskedAmong less more asked
asked_wider from less end more Any low high among = tt
asked_wider from less end more Parameter low high among = tt
asked_wider from less end more Underlying low high among = tt
asked_wider from less end more Base low high among = tt
asked_wider from less end more NoParameter low high among = tt
asked_wider from less end more (Interface flag) low high among = (omega (arith, among.0, low), omega (arith, among.1, high))

all_wider : (from less end more : ℕ) (ms : List Mention) → less ≤ from → end ≤ more → AllByRecursion (IsNamedAmong from end) ms → AllByRecursion (IsNamedAmong less more) ms
all_wider from less end more [] low high all = tt
all_wider from less end more (m ∷ ms) low high all = (
  (omega (arith, all.0.0, low), omega (arith, all.0.1, high), asked_wider from less end more m.asked low high all.0.2),
  all_wider from less end more ms low high all.1,
)

-- ---- the types of a block

-- the fault of a type that isn't what its holder asks for
unmet_among : (lo hi : ℕ) (m : Mention) (asked : Demand) → (lo ≤ m.at) × (m.at < hi) → IsAskedAmong lo hi asked → IsAmong lo hi (unmet m asked)
unmet_among lo hi m Any here among = here
unmet_among lo hi m Parameter here among = here
unmet_among lo hi m Underlying here among = here
unmet_among lo hi m Base here among = here
unmet_among lo hi m NoParameter here among = here
unmet_among lo hi m (Interface flag) here among = among

abbrev named_range : Mention → ByteFault
named_range m = faults.Range m.at m.value

module _ (src : Sections) (p : ReadsBlock) (holder lo hi : ℕ)
    (nested : (offset : ℕ) (done : Table) (f : ByteFault) → offset < holder → p offset holder done ≡ Err f → is_ended f ≡ false → IsAmong lo hi f) where
  range_among : (m : Mention) (f : ByteFault) → IsNamedAmong lo hi m → named_range m ≡ f → IsAmong lo hi f
  range_among m f here is = subst (IsAmong lo hi) is (here.0, here.1)

  named_among : (m : Mention) (r : Result Table ByteFault) (f : ByteFault) → IsNamedAmong lo hi m → ((g : ByteFault) → r ≡ Err g → is_ended g ≡ false → IsAmong lo hi g)
      → named_at m r ≡ Err f → IsAmong lo hi f
  named_among m (Ok done) f here among e = absurd cc
  named_among m (Err (faults.Ended at)) f here among e = range_among m f here (fault_is (named_range m) f e)
  named_among m (Err (faults.Number at)) f here among e = subst (IsAmong lo hi) (fault_is _ f e) (among (faults.Number at) refl refl)
  named_among m (Err (faults.Range at value)) f here among e = subst (IsAmong lo hi) (fault_is _ f e) (among (faults.Range at value) refl refl)
  named_among m (Err (faults.Tag at value)) f here among e = subst (IsAmong lo hi) (fault_is _ f e) (among (faults.Tag at value) refl refl)
  named_among m (Err (faults.Order at)) f here among e = subst (IsAmong lo hi) (fault_is _ f e) (among (faults.Order at) refl refl)
  named_among m (Err (faults.Version found)) f here among e = subst (IsAmong lo hi) (fault_is _ f e) (among (faults.Version found) refl refl)
  named_among m (Err (faults.Wide at)) f here among e = subst (IsAmong lo hi) (fault_is _ f e) (among (faults.Wide at) refl refl)
  named_among m (Err (faults.Float at)) f here among e = subst (IsAmong lo hi) (fault_is _ f e) (among (faults.Float at) refl refl)
  named_among m (Err (faults.NotConst at)) f here among e = subst (IsAmong lo hi) (fault_is _ f e) (among (faults.NotConst at) refl refl)
  named_among m (Err (faults.Trailing at)) f here among e = subst (IsAmong lo hi) (fault_is _ f e) (among (faults.Trailing at) refl refl)

  found_among : (m : Mention) (done : Table) (f : ByteFault) (a : Option Finished) → IsNamedAmong lo hi m → m.value - 32 < holder
      → found_or_read p holder m done a ≡ Err f → IsAmong lo hi f
  found_among m done f (Some finished) here before e = elim (bind_err (demand (nat_le finished.end holder) (named_range m)) (λ u. Ok done) f e) [
    | inl one ↦ range_among m f here (demand_fault (nat_le finished.end holder) (named_range m) f one)
    | inr two ↦ absurd (let no = two.2 in cc)
  ]
  found_among m done f None here before e =
      named_among m (p (m.value - 32) holder done) f here (λ g is plain. nested (m.value - 32) done g before is plain) e

  described_among : (m : Mention) (done : Table) (f : ByteFault) (test : Bool) → nat_lt (m.value - 32) holder ≡ test → IsNamedAmong lo hi m
      → (demand test (named_range m) >>= λ before. found_or_read p holder m done (at done (m.value - 32))) ≡ Err f → IsAmong lo hi f
  described_among m done f true is here e = found_among m done f (at done (m.value - 32)) here (ltb-true (m.value - 32) holder is) e
  described_among m done f false is here e = range_among m f here (fault_is (named_range m) f e)

  basic_among : (m : Mention) (done : Table) (f : ByteFault) → IsNamedAmong lo hi m → with_basic src.version m done ≡ Err f → IsAmong lo hi f
  basic_among m done f here e = elim (bind_err (demand (is_some (basic_of src.version m.value)) (named_range m)) (λ u. Ok done) f e) [
    | inl one ↦ range_among m f here (demand_fault (is_some (basic_of src.version m.value)) (named_range m) f one)
    | inr two ↦ absurd (let no = two.2 in cc)
  ]

  typed_among : (m : Mention) (done : Table) (f : ByteFault) (test : Bool) → IsNamedAmong lo hi m
      → cond test (with_basic src.version m done) (with_descriptor p holder m done) ≡ Err f → IsAmong lo hi f
  typed_among m done f true here e = basic_among m done f here e
  typed_among m done f false here e = described_among m done f (nat_lt (m.value - 32) holder) refl here e

  resolve_among : (m : Mention) (done : Table) (f : ByteFault) → IsNamedAmong lo hi m → resolve src p holder m done ≡ Err f → IsAmong lo hi f
  resolve_among m done f here e =
      elim (bind_err (with_type src p holder m done) (λ known. demand (meets m.asked (type_named src.version known m.value)) (unmet m m.asked) >>= λ met. Ok known) f e) [
        | inl one ↦ typed_among m done f (nat_lt m.value 32) here one
        | inr two ↦ elim (bind_err (demand (meets m.asked (type_named src.version two.0 m.value)) (unmet m m.asked)) (λ met. Ok two.0) f two.2) [
          | inl one ↦ subst (IsAmong lo hi) (demand_fault (meets m.asked (type_named src.version two.0 m.value)) (unmet m m.asked) f one) (unmet_among lo hi m m.asked (here.0, here.1) here.2)
          | inr last ↦ absurd (let no = last.2 in cc)
        ]
      ]

  resolve_all_among : (ms : List Mention) (done : Table) (f : ByteFault) → AllByRecursion (IsNamedAmong lo hi) ms → resolve_all src p holder ms done ≡ Err f → IsAmong lo hi f
  resolve_all_among [] done f all e = absurd cc
  resolve_all_among (m ∷ ms) done f all e = elim (bind_err (resolve src p holder m done) (resolve_all src p holder ms) f e) [
    | inl one ↦ resolve_among m done f all.0 one
    | inr two ↦ resolve_all_among ms two.0 f all.1 two.2
  ]

abbrev failed_with : (Y : Type 0) → ByteFault → Result Y ByteFault
failed_with Y f = Err f

-- ---- what is left of a block, in the data section

module _ (src : Sections) where
  abbrev first_byte : ℕ
  first_byte = src.body_at

  abbrev last_end : ℕ
  last_end = src.body_at + length src.body

  record IsInside (a : Ahead) : Type 0 where
    fits : length a.spot.left ≤ a.spot.end
    low : first_byte ≤ place a.spot
    high : a.spot.end ≤ last_end

  window_inside : (from to : ℕ) → to ≤ length src.body → IsInside (start (window src from to))
  window_inside from to within =
      let long = part_length src.body from to within in
      record { fits = omega (arith, long); low = omega (arith, long); high = omega (arith, within) }

  inside_on : (a b : Ahead) → IsInside a → IsAhead a.spot b.spot → IsInside b
  inside_on a b inside ahead = record {
    fits = ahead_fits a.spot b.spot ahead inside.fits;
    low = omega (arith, inside.low, ahead_place a.spot b.spot ahead);
    high = omega (arith, inside.high, ahead.same_end);
  }

  named_inside : (a : Ahead) (ms : List Mention) → IsInside a → a.mentions ≡ [] → AreNamedAmong (place a.spot) a.spot.end a.mentions ms → AllByRecursion (IsNamedAmong first_byte last_end) ms
  named_inside a ms inside no_more named =
      let is : ms ≡ named.0 = named.1 ∙ ap (λ (front : List Mention). front ++ named.0) no_more in
      subst (AllByRecursion (IsNamedAmong first_byte last_end)) (sym is) (all_wider (place a.spot) first_byte a.spot.end last_end named.0 inside.low inside.high named.2)

  -- the types that a block names, and then what is made of it, or its own fault
  abbrev by_parts : {X Y : Type 0} → ReadsBlock → ℕ → Table → Result (X × Ahead) Stopped → (X × Ahead → Table → Result Y ByteFault) → Result Y ByteFault
  by_parts p holder done (Ok x) good = resolve_all src p holder (x.1).mentions done >>= good x
  by_parts p holder done (Err s) good = resolve_all src p holder s.mentions done >>= λ known. Err s.fault

  -- a block's own bytes, and the types that they name
  module _ (p : ReadsBlock) (holder : ℕ) (nested : (offset : ℕ) (done : Table) (f : ByteFault) → offset < holder → p offset holder done ≡ Err f → is_ended f ≡ false → IsAmong first_byte last_end f)
      {X : Type 0} (a : Ahead) (inside : IsInside a) (none_yet : a.mentions ≡ []) (done : Table) where
    own_among : (r : Result (X × Ahead) Stopped) → StaysAmong (place a.spot) a.spot.end a.mentions r → {Y : Type 0} (good : X × Ahead → Table → Result Y ByteFault)
        → ((x : X × Ahead) (known : Table) (f : ByteFault) → good x known ≡ Err f → ⊥) → (f : ByteFault) → is_ended f ≡ false → by_parts p holder done r good ≡ Err f → IsAmong first_byte last_end f
    own_among (Ok x) stays {Y} good never f plain e = elim (bind_err (resolve_all src p holder (x.1).mentions done) (good x) f e) [
      | inl one ↦ resolve_all_among src p holder first_byte last_end nested (x.1).mentions done f (named_inside a (x.1).mentions inside none_yet stays) one
      | inr two ↦ absurd (never x two.0 f two.2)
    ]
    own_among (Err s) stays {Y} good never f plain e = elim (bind_err (resolve_all src p holder s.mentions done) (λ known. failed_with Y s.fault) f e) [
      | inl one ↦ resolve_all_among src p holder first_byte last_end nested s.mentions done f (named_inside a s.mentions inside none_yet stays.0) one
      | inr two ↦
          let same = fault_is s.fault f two.2 in
          among_wider (place a.spot) first_byte a.spot.end last_end f inside.low inside.high
          (subst (IsAmong (place a.spot) a.spot.end) same (stays.1 (ap is_ended same ∙ plain)))
    ]

  -- ---- descriptors

  abbrev finishing : ℕ → Flat × Ahead → Table → Result Table ByteFault
  finishing offset x known = Ok (with_block known offset (record { end = offset_of src x.1; tree = tree_spelled src.version known x.0 }))

  finish_is : (p : ReadsBlock) (offset : ℕ) (r : Result (Flat × Ahead) Stopped) (done : Table) → finish src p offset r done ≡ by_parts p offset done r (finishing offset)
  finish_is p offset (Ok x) done = refl
  finish_is p offset (Err s) done = refl

  pub blocks_inside : (n offset holder : ℕ) (done : Table) (f : ByteFault) → offset < holder → holder ≤ length src.body → block_at src n offset holder done ≡ Err f → is_ended f ≡ false
      → IsAmong first_byte last_end f
  unfolding block_at
  blocks_inside zero offset holder done f before within e plain = absurd (let is = ap is_ended (fault_is (faults.Ended 0) f e) in cc)
  blocks_inside (suc n) offset holder done f before within e plain =
      let to = free_to offset holder done in
      let inside = window_inside offset to (omega (arith, free_within offset holder done (omega (arith, before)), within)) in
      let a = start (window src offset to) in
      own_among (block_at src n) offset (λ inner now g less is fine. blocks_inside n inner offset now g less (omega (arith, before, within)) is fine) a inside refl done
      (flat_at src a) ((flat_local src).inside a inside.fits) (finishing offset) (λ x known g no. absurd cc) f plain (sym (finish_is (block_at src n) offset (flat_at src a) done) ∙ e)

  -- ---- the parts of a declaration

  abbrev handing : {X : Type 0} → X × Ahead → Table → Result (Typed X) ByteFault
  handing x known = Ok ((x.0, record { spot = (x.1).spot; before = (x.1).before; mentions = [] }), known)

  resolved_is : {X : Type 0} (offset : ℕ) (r : Result (X × Ahead) Stopped) (done : Table) → resolved src offset r done ≡ by_parts (block_at src offset) offset done r handing
  resolved_is offset (Ok x) done = refl
  resolved_is offset (Err s) done = refl

  part_inside : {X : Type 0} (read : Reader X) → IsLocal read → (offset : ℕ) → offset ≤ length src.body → (a : Ahead) → IsInside a → a.mentions ≡ [] → (done : Table) (f : ByteFault) → is_ended f ≡ false
      → resolved src offset (read a) done ≡ Err f → IsAmong first_byte last_end f
  part_inside read local offset within a inside no_more done f plain e =
      own_among (block_at src offset) offset (λ inner now g less is fine. blocks_inside offset inner offset now g less within is fine) a inside no_more done
      (read a) (local.inside a inside.fits) handing (λ x known g no. absurd cc) f plain (sym (resolved_is offset (read a) done) ∙ e)

  resolved_from : {X : Type 0} (offset : ℕ) (r : Result (X × Ahead) Stopped) (done : Table) (w : Typed X) → resolved src offset r done ≡ Ok w
      → (x : X × Ahead) × (r ≡ Ok x) × (w.0.0 ≡ x.0) × (w.0.1.spot ≡ (x.1).spot) × (w.0.1.mentions ≡ [])
  resolved_from offset (Ok x) done w e =
      let known = bind_ok (resolve_all src (block_at src offset) offset (x.1).mentions done) (handing x) w e in
      let same = done_is ((x.0, record { spot = (x.1).spot; before = (x.1).before; mentions = [] }), known.0) w known.2 in
      (x, refl, sym (ap (λ (w : Typed _). w.0.0) same), sym (ap (λ (w : Typed _). w.0.1.spot) same), sym (ap (λ (w : Typed _). w.0.1.mentions) same))
  resolved_from {X} offset (Err s) done w e =
      let known = bind_ok (resolve_all src (block_at src offset) offset s.mentions done) (λ known. failed_with (Typed X) s.fault) w e in
      absurd (let no' = known.2 in cc)

-- ---- where the typeOff of a constant stands

abbrev HeadAmong : ℕ → ℕ → Head → Type 0
HeadAmong from end (whole form) = Unit {0}
HeadAmong from end (of_type pos tparams type) = Unit {0}
HeadAmong from end (of_constant pos type at) = (from ≤ at) × (at < end)

abbrev Gives : {X : Type 0} → (X → Type 0) → Result (X × Ahead) Stopped → Type 0
Gives {X} P r = (x : X) (b : Ahead) → r ≡ Ok (x, b) → P x

module _ {Y : Type 0} (P : Y → Type 0) where
  then_gives : {X : Type 0} (p : Reader X) (q : X → Reader Y) (a : Ahead) → ((x : X) (b : Ahead) → p a ≡ Ok (x, b) → Gives P (q x b)) → Gives P (p a >>= λ r. q r.0 r.1)
  then_gives p q a each y c e = let w = bind_ok (p a) (λ r. q r.0 r.1) (y, c) e in each w.0.0 w.0.1 w.1 y c w.2

  done_gives : (x : Y) (a : Ahead) → P x → Gives P (Ok (x, a))
  done_gives x a held y c e = subst P (ap (λ (p : Y × Ahead). p.0) (read_is (x, a) (y, c) e)) held

module _ (src : Sections) (from end : ℕ) (a : Ahead) where
  abbrev P : Head → Type 0
  P = HeadAmong from end

  var_gives : Gives P (var_at src a)
  unfolding var_at
  var_gives = then_gives P (pos_at src) (λ pos a. type_at Any a >>= λ type. Ok (whole (var_of pos type.0), type.1)) a
      (λ pos b is. then_gives P (type_at Any) (λ type a. Ok (whole (var_of pos type), a)) b (λ type c is. done_gives P (whole (var_of pos type)) c tt))

  func_gives : Gives P (func_decl_at src a)
  unfolding func_decl_at
  func_gives = then_gives P (pos_at src) (λ pos a. sig_at src a >>= λ sig. Ok (whole (function_of pos [] sig.0), sig.1)) a
      (λ pos b is. then_gives P (sig_at src) (λ sig a. Ok (whole (function_of pos [] sig), a)) b (λ sig c is. done_gives P (whole (function_of pos [] sig)) c tt))

  generic_func_gives : Gives P (generic_func_at src a)
  unfolding generic_func_at
  generic_func_gives = then_gives P (pos_at src) (λ pos a. tparams_at a >>= λ tparams. sig_at src tparams.1 >>= λ sig. Ok (whole (function_of pos tparams.0 sig.0), sig.1)) a
      (λ pos b is. then_gives P tparams_at (λ tparams a. sig_at src a >>= λ sig. Ok (whole (function_of pos tparams sig.0), sig.1)) b
      (λ tparams c is. then_gives P (sig_at src) (λ sig a. Ok (whole (function_of pos tparams sig), a)) c (λ sig d is. done_gives P (whole (function_of pos tparams sig)) d tt)))

  defined_gives : Gives P (defined_at src a)
  unfolding defined_at
  defined_gives = then_gives P (pos_at src) (λ pos a. type_at Underlying a >>= λ type. Ok (of_type pos [] type.0, type.1)) a
      (λ pos b is. then_gives P (type_at Underlying) (λ type a. Ok (of_type pos [] type, a)) b (λ type c is. done_gives P (of_type pos [] type) c tt))

  generic_defined_gives : Gives P (generic_defined_at src a)
  unfolding generic_defined_at
  generic_defined_gives = then_gives P (pos_at src) (λ pos a. tparams_at a >>= λ tparams. type_at Underlying tparams.1 >>= λ type. Ok (of_type pos tparams.0 type.0, type.1)) a
      (λ pos b is. then_gives P tparams_at (λ tparams a. type_at Underlying a >>= λ type. Ok (of_type pos tparams type.0, type.1)) b
      (λ tparams c is. then_gives P (type_at Underlying) (λ type a. Ok (of_type pos tparams type, a)) c (λ type d is. done_gives P (of_type pos tparams type) d tt)))

  alias_gives : Gives P (alias_at src a)
  unfolding alias_at
  alias_gives = then_gives P (pos_at src) (λ pos a. type_at Any a >>= λ type. Ok (whole (renamed_of pos [] type.0), type.1)) a
      (λ pos b is. then_gives P (type_at Any) (λ type a. Ok (whole (renamed_of pos [] type), a)) b (λ type c is. done_gives P (whole (renamed_of pos [] type)) c tt))

  generic_alias_gives : Gives P (generic_alias_at src a)
  unfolding generic_alias_at
  generic_alias_gives = then_gives P (pos_at src) (λ pos a. tparams_at a >>= λ tparams. type_at NoParameter tparams.1 >>= λ type. Ok (whole (renamed_of pos tparams.0 type.0), type.1)) a
      (λ pos b is. then_gives P tparams_at (λ tparams a. type_at NoParameter a >>= λ type. Ok (whole (renamed_of pos tparams type.0), type.1)) b
      (λ tparams c is. then_gives P (type_at NoParameter) (λ type a. Ok (whole (renamed_of pos tparams type), a)) c (λ type d is. done_gives P (whole (renamed_of pos tparams type)) d tt)))

  parameter_gives : Gives P (parameter_at src a)
  unfolding parameter_at
  parameter_gives = then_gives P (pos_at src) (λ pos a. truth_at a >>= λ implicit. type_at (constraint_demand implicit.0 (place a.spot)) implicit.1 >>= λ type. Ok (whole (type_parameter_of pos implicit.0 type.0), type.1)) a
      (λ pos b is. then_gives P truth_at (λ implicit a. type_at (constraint_demand implicit (place b.spot)) a >>= λ type. Ok (whole (type_parameter_of pos implicit type.0), type.1)) b
      (λ implicit c is. then_gives P (type_at (constraint_demand implicit (place b.spot))) (λ type a. Ok (whole (type_parameter_of pos implicit type), a)) c (λ type d is. done_gives P (whole (type_parameter_of pos implicit type)) d tt)))

  type_some : (b c : Ahead) (type : SpelledType) → type_at Any b ≡ Ok (type, c) → 0 < length b.spot.left
  unfolding type_at
  type_some b c type e =
      let read = bind_ok (number_at b) (λ n. Ok (without_pos n.0, mentioned Any b n)) (type, c) e in
      omega (arith, number_some b read.0.1 read.0.0 read.1)

  constant_gives : length a.spot.left ≤ a.spot.end → from ≤ place a.spot → a.spot.end ≤ end → Gives P (constant_at src a)
  unfolding constant_at
  constant_gives fits low high = then_gives P (pos_at src) (λ pos a. type_at Any a >>= λ type. Ok (of_constant pos type.0 (place a.spot), type.1)) a
      (λ pos b pos_is.
      let ahead = (pos_local src).steady.ahead a b pos pos_is in
      then_gives P (type_at Any) (λ type a. Ok (of_constant pos type (place b.spot), a)) b
      (λ type c is.
      let before = ahead_place a.spot b.spot ahead in
      let fine = ahead_fits a.spot b.spot ahead fits in
      let some = type_some b c type is in
      done_gives P (of_constant pos type (place b.spot)) c (omega (arith, low, before), omega (arith, fine, some, ahead.same_end, high))))

  by_gives : length a.spot.left ≤ a.spot.end → from ≤ place a.spot → a.spot.end ≤ end → (tag : DeclTag) → Gives P (head_by src tag a)
  by_gives fits low high Var = var_gives
  by_gives fits low high Func = func_gives
  by_gives fits low high GenericFunc = generic_func_gives
  by_gives fits low high ConstTag = constant_gives fits low high
  by_gives fits low high Defined = defined_gives
  by_gives fits low high GenericDefined = generic_defined_gives
  by_gives fits low high Alias = alias_gives
  by_gives fits low high GenericAlias = generic_alias_gives
  by_gives fits low high TypeParameter = parameter_gives

head_gives : (src : Sections) (from end : ℕ) (a : Ahead) → length a.spot.left ≤ a.spot.end → from ≤ place a.spot → a.spot.end ≤ end → Gives (HeadAmong from end) (head_at src a)
unfolding head_at
head_gives src from end a fits low high x c e =
    let byte = bind_ok (plain a (byte_at a.spot)) (λ byte. or_stop a (faults.Tag (place a.spot) byte.0) (decl_tag_of src.version byte.0) >>= λ tag. head_by src tag byte.1) (x, c) e in
    let tag = bind_ok (or_stop a (faults.Tag (place a.spot) byte.0.0) (decl_tag_of src.version byte.0.0)) (λ tag. head_by src tag byte.0.1) (x, c) byte.2 in
    let ahead = (plain_local byte_at byte_local).steady.ahead a byte.0.1 byte.0.0 byte.1 in
    by_gives src from end byte.0.1 (ahead_fits a.spot byte.0.1.spot ahead fits) (omega (arith, low, ahead_place a.spot byte.0.1.spot ahead)) (omega (arith, high, ahead.same_end)) tag.0 x c tag.2

-- ---- a declaration

kind_among : (lo hi at : ℕ) (kind : Kind) (f : ByteFault) → (lo ≤ at) × (at < hi) → spelling_by at kind ≡ Err f → IsAmong lo hi f
kind_among lo hi at (spelled spelling) f here e = absurd cc
kind_among lo hi at floating f here e = subst (IsAmong lo hi) (fault_is (faults.Float at) f e) here
kind_among lo hi at none f here e = subst (IsAmong lo hi) (fault_is (faults.NotConst at) f e) here

spelling_among : (lo hi at : ℕ) (basic : Option Basic) (f : ByteFault) → (lo ≤ at) × (at < hi) → spelling_at at basic ≡ Err f → IsAmong lo hi f
spelling_among lo hi at (Some basic) f here e = kind_among lo hi at (kind_of basic) f here e
spelling_among lo hi at None f here e = subst (IsAmong lo hi) (fault_is (faults.NotConst at) f e) here

module _ (src : Sections) (basics : Basics) (offset : ℕ) (within : offset ≤ length src.body) where
  abbrev lo : ℕ
  lo = src.body_at

  abbrev hi : ℕ
  hi = src.body_at + length src.body

  value_among : (spelling : Spelling) (b : Ahead) (r : Result (SpelledConst × Ahead) Stopped) (f : ByteFault) → IsInside src b → StaysAmong (place b.spot) b.spot.end b.mentions r → is_ended f ≡ false
      → fault_alone r ≡ Err f → IsAmong lo hi f
  value_among spelling b (Ok v) f inside stays plain e = absurd cc
  value_among spelling b (Err s) f inside stays plain e =
      let same = fault_is s.fault f e in
      among_wider (place b.spot) lo b.spot.end hi f inside.low inside.high (subst (IsAmong (place b.spot) b.spot.end) same (stays.1 (ap is_ended same ∙ plain)))

  after_among : (head : Head) (b : Ahead) (done : Table) (f : ByteFault) → IsInside src b → b.mentions ≡ [] → HeadAmong lo hi head → is_ended f ≡ false
      → after_head src basics offset head b done ≡ Err f → IsAmong lo hi f
  after_among (whole form) b done f inside no_more here plain e = absurd cc
  after_among (of_type pos tparams underlying) b done f inside no_more here plain e = by (has_methods (type_spelled src.version done underlying)) e
    where
      by : (methods : Bool) → after_type src offset pos tparams underlying b done methods ≡ Err f → IsAmong lo hi f
      by true e = elim (bind_err (resolved src offset (list_at (receiver_at src) b) done) (methods_of pos tparams underlying) f e) [
        | inl one ↦ part_inside src (list_at (receiver_at src)) (receivers_local src) offset within b inside no_more done f plain one
        | inr two ↦ absurd (let no' = two.2 in cc)
      ]
      by false e = absurd cc
  after_among (of_constant pos type at) b done f inside no_more here plain e =
      elim (bind_err (spelling_at at (basic_type basics (type_spelled src.version done type))) (λ spelling. fault_alone (value_at src spelling b) >>= λ value. read (constant_of pos type (value.0).value) (value.0).offset value.1 done) f e) [
        | inl one ↦ spelling_among lo hi at (basic_type basics (type_spelled src.version done type)) f here one
        | inr two ↦ elim (bind_err (fault_alone (value_at src two.0 b)) (λ value. read (constant_of pos type (value.0).value) (value.0).offset value.1 done) f two.2) [
          | inl one ↦ value_among two.0 b (value_at src two.0 b) f inside ((value_local src two.0).inside b inside.fits) plain one
          | inr last ↦ absurd (let no' = last.2 in cc)
        ]
      ]

  read_among : (a : Ahead) (f : ByteFault) → IsInside src a → a.mentions ≡ [] → is_ended f ≡ false → read_from src basics offset a ≡ Err f → IsAmong lo hi f
  read_among a f inside no_more plain e = elim (bind_err (resolved src offset (head_at src a) []) (after_typed src basics offset) f e) [
    | inl one ↦ part_inside src (head_at src) (head_local src) offset within a inside no_more [] f plain one
    | inr two ↦
        let from = resolved_from src offset (head_at src a) [] two.0 two.1 in
        let ahead = (head_local src).steady.ahead a from.0.1 from.0.0 from.1 in
        let next = inside_on src a from.0.1 inside ahead in
        let here : HeadAmong lo hi from.0.0 = head_gives src lo hi a inside.fits inside.low inside.high from.0.0 from.0.1 from.1 in
        after_among two.0.0.0 two.0.0.1 two.0.1 f
        (record { fits = subst (λ (s : Spot). length s.left ≤ s.end) (sym from.3) next.fits; low = subst (λ (s : Spot). lo ≤ place s) (sym from.3) next.low; high = subst (λ (s : Spot). s.end ≤ hi) (sym from.3) next.high })
        from.4 (subst (HeadAmong lo hi) (sym from.2) here) plain two.2
  ]

  pub decl_inside : (f : ByteFault) → is_ended f ≡ false → decl_from src basics offset (at_block src basics offset) ≡ Err f → IsAmong lo hi f
  decl_inside f plain e = elim (bind_err (read_from src basics offset (at_block src basics offset)) (λ x. Ok (decl_of src x)) f e) [
    | inl one ↦ read_among (at_block src basics offset) f (window_inside src offset (length src.body) (omega arith)) refl plain one
    | inr two ↦ absurd (let no' = two.2 in cc)
  ]
