-- A descriptor that is closed: its types are known, and it joins the finished ones.
use Rattle.std.proofs.Common.{◌≡◌, ◌≢◌, ℕ, ◌+◌, ◌-◌, ◌<◌, ◌≤◌, false, cond, List, [], ◌∷◌, length, map, Result, Ok, Err, Some, None, refl, sym, ap, subst, ◌∙◌, inl, inr, ◌⊎◌, arith}
use Rattle.std.specs.Prelude.{take, OnOk}
use Rattle.std.specs.List.{AllByRecursion}
use Rattle.std.proofs.lemmas.Bool.{cases_lt}
use Rattle.std.proofs.lemmas.List.{take_all}
use Rattle.std.specs.Ordering.{nat_cmp, is_eq}
use Rattle.std.specs.declared.cmp.Ordering.TheVariants.{Less, Greater}
use Rattle.std.specs.Cmp.{nat_cmp_is}
use Rattle.wire_bytes.specs.declared.fault.ByteFault.{ByteFault}
use Rattle.wire_bytes.specs.declared.fault.ReadFault.{ReadFault}
use Rattle.wire_bytes.specs.Reading.{◌>>=◌, demand}
use Rattle.wire_bytes.proofs.Steps.{demand_ok}
use Rattle.type_terms.specs.Trees.{Tree}
use Rattle.type_terms.specs.Shapes.{retype}
use Rattle.std.proofs.lemmas.List.{length-map}
use Rattle.decl_spelling.specs.Spelled.{without_pos}
use Rattle.decl_spelling.specs.declared.mention.Mention.{Mention}
use Rattle.decl_spelling.specs.Sections.{Sections}
use Rattle.decl_spelling.specs.Descriptors.{Flat}
use Rattle.decl_spelling.specs.Tables.{Finished as Placed, Table, at, with_block, type_named, tree_spelled, finished_tree}
use Rattle.decl_spelling.specs.Descent.{meets, unmet}
use Rattle.decl_spelling.specs.Spelling.{IsInstanceOf}
use Rattle.decl_spelling.specs.KnownTypes.{Kept, IsAnswered}
use Rattle.decl_spelling.proofs.KnownTypeLemmas.{known_as, named_block}
use Rattle.decl_spelling.specs.Asks.{ask_of, shape_asks}
use Rattle.decl_spelling.proofs.AskLemmas.{mentions_met, base_met}
use Rattle.decl_spelling.proofs.TableLaws.{found_new, found_still}
use Rattle.decl_reader.specs.declared.descent.Open.{Open}
use Rattle.decl_reader.specs.Places.{HasRoom, IsStacked}
use Rattle.decl_reader.specs.Meant.{IsGenericFlat}
use Rattle.decl_reader.specs.Frames.{answered, with_shape}
use Rattle.block_reader.specs.declared.descriptors.Flat.{Flat as FlatParts}
use Rattle.block_reader.specs.declared.descriptors.Flat.TheVariants as parts
use Rattle.block_reader.specs.Parts.{flat_spelled}
use Rattle.decl_reader.specs.Shapes.{flat_shape}
use Rattle.decl_reader.specs.Opens.{IsOpen, IsOwn, IsClosed, IsFinished, EndsBefore, HasArgument, checked_type}

-- ---- the base of an instance

generic_by : (src : Sections) (done : Table) (x : FlatParts) → HasArgument (flat_spelled x) → IsInstanceOf (retype (known_as src done) (flat_spelled x)) → IsGenericFlat src.version done (flat_shape x)
generic_by src done (parts.Defined q) argument base = tt
generic_by src done (parts.TypeParameter q) argument base = tt
generic_by src done (parts.Alias q) argument base = tt
generic_by src done (parts.Pointer ty) argument base = tt
generic_by src done (parts.Slice ty) argument base = tt
generic_by src done (parts.Array len ty) argument base = tt
generic_by src done (parts.Chan dir ty) argument base = tt
generic_by src done (parts.Map key ty) argument base = tt
generic_by src done (parts.Func home sig) argument base = tt
generic_by src done (parts.Struct home fields) argument base = tt
generic_by src done (parts.Interface home embedded methods) argument base = tt
generic_by src done (parts.Instance pos b args) argument base = (base, omega (arith, argument, length-map args.items without_pos))
generic_by src done (parts.Union terms) argument base = tt

pub generic_flat : (src : Sections) (done : Table) (start k : ℕ) (ms : List Mention) (x : FlatParts) → k ≡ length ms → AllByRecursion (IsAnswered src done start) (take k ms) → map ask_of ms ≡ shape_asks (flat_spelled x) → HasArgument (flat_spelled x)
    → IsGenericFlat src.version done (flat_shape x)
generic_flat src done start k ms x all answers asks argument =
    let each : AllByRecursion (IsAnswered src done start) ms = subst (AllByRecursion (IsAnswered src done start)) (take_all k ms (omega (arith, all))) answers in
    generic_by src done x argument (base_met src done start (flat_spelled x) (mentions_met src done start ms (shape_asks (flat_spelled x)) asks each))

-- ---- the new block

differs : (o q : ℕ) → o ≢ q → is_eq (nat_cmp o q) ≡ false
differs o q other = by (cases_lt o q) (cases_lt q o)
  where
    by : (o < q) ⊎ (q ≤ o) → (q < o) ⊎ (o ≤ q) → is_eq (nat_cmp o q) ≡ false
    by (inl less) more = ap is_eq (sym (nat_cmp_is o q Less less))
    by (inr le) (inl less) = ap is_eq (sym (nat_cmp_is o q Greater less))
    by (inr le) (inr ge) = absurd (other (omega arith))

skip_first : (o : ℕ) (e : ℕ × Placed) (es : Table) → o ≢ e.0 → at (e ∷ es) o ≡ at es o
skip_first o e es other = ap (λ b. cond b (Some e.1) (at es o)) (differs o e.0 other)

pub none_found : (o end : ℕ) (es : Table) → IsStacked es → HasRoom o end es → o < end → at es o ≡ None
none_found o end [] stacked room some = refl
none_found o end (e ∷ es) stacked room some =
    let other : o ≢ e.0 = λ same. elim room.0 [ inl ended ↦ omega (arith, stacked.0) | inr later ↦ omega arith ] in
    skip_first o e es other ∙ none_found o end es stacked.2 room.1 some

pub type_of_new : (src : Sections) (done : Table) (m : Mention) (start : ℕ) (fin : Placed) → m.value ≡ 32 + start → type_named src.version (with_block done start fin) m.value ≡ fin.tree
type_of_new src done m start fin is =
    let offset : m.value - 32 ≡ start = omega arith in
    named_block src (with_block done start fin) m.value (omega arith) ∙ ap finished_tree (ap (at (with_block done start fin)) offset ∙ found_new done start fin)

pub kept_new : (done : Table) (start : ℕ) (fin : Placed) → at done start ≡ None → Kept done (with_block done start fin)
kept_new done start fin none o f found = found_still done start o fin (λ same. let is : at done o ≡ None = ap (at done) same ∙ none in cc) ∙ found

-- What a check of the type of a descriptor that was just added says of the mention that named it.
module _ (src : Sections) (done : Table) (m : Mention) (start : ℕ) (fin : Placed) (its_start : m.value ≡ 32 + start) where
  abbrev known : Table
  known = with_block done start fin

  pub answered_new : answered src.version m known ≡ (checked_type m fin.tree >>= λ u. Ok known)
  answered_new = ap (λ (t : Tree). demand (meets m.asked t) (unmet m m.asked) >>= λ u. Ok known) (type_of_new src done m start fin its_start)

  pub unmet_new : (f : ByteFault) → checked_type m fin.tree ≡ Err f → answered src.version m known ≡ Err f
  unmet_new f e = answered_new ∙ ap (λ (r : Result (Unit {0}) ByteFault). r >>= λ u. Ok known) e

  pub met_new : (u : Unit {0}) → checked_type m fin.tree ≡ Ok u → answered src.version m known ≡ Ok known
  met_new u e = answered_new ∙ ap (λ (r : Result (Unit {0}) ByteFault). r >>= λ v. Ok known) e

  pub is_answered_new : (u : Unit {0}) (holder : ℕ) → checked_type m fin.tree ≡ Ok u → fin.end ≤ holder → IsAnswered src known holder m
  is_answered_new u holder e ends =
      let offset : m.value - 32 ≡ start = omega (arith, its_start) in (
        inr (omega (arith, its_start), fin, ap (at known) offset ∙ found_new done start fin, ends),
        ap (meets m.asked) (type_of_new src done m start fin its_start) ∙ demand_ok (meets m.asked fin.tree) (unmet m m.asked) u e,
      )

-- ---- a descriptor that joined the finished ones

module _ (src : Sections) (done : Table) (start : ℕ) (x : Flat) (end : ℕ) (m : Mention) (its_start : m.value ≡ 32 + start) where
  abbrev fin : Placed
  fin = record { end = end; tree = tree_spelled src.version done x }

  pub joined_ok : (u : Unit {0}) → checked_type m (tree_spelled src.version done x) ≡ Ok u → answered src.version m (with_shape src.version start (x, end) done) ≡ Ok (with_shape src.version start (x, end) done)
  joined_ok u ok = met_new src done m start fin its_start u ok

  pub joined_fault : (f : ByteFault) → checked_type m (tree_spelled src.version done x) ≡ Err f → answered src.version m (with_shape src.version start (x, end) done) ≡ Err f
  joined_fault f fault = unmet_new src done m start fin its_start f fault

  pub joined_finished : (u : Unit {0}) → at done start ≡ None → checked_type m (tree_spelled src.version done x) ≡ Ok u → ((from to : ℕ) → end ≤ from → HasRoom from to done → HasRoom from to (with_shape src.version start (x, end) done))
      → IsFinished src done (with_shape src.version start (x, end) done) m end
  joined_finished u none ok rooms = record {
    kept = kept_new done start fin none;
    answered = λ holder ends. is_answered_new src done m start fin its_start u holder ok ends;
    room = rooms;
  }

-- what a whole one says of its own bytes
pub own_is : (src : Sections) (done : Table) (o : Open) (flat : FlatParts) (end : ℕ) → IsOpen src done o → o.own ≡ Ok (flat, end) → IsOwn done o.start o.mentions.items (Ok (flat, end))
own_is src done o flat end is_open is = subst (IsOwn done o.start o.mentions.items) is is_open.own

-- where a whole one ends
pub own_ends : (src : Sections) (done : Table) (o : Open) (flat : FlatParts) (end : ℕ) → IsOpen src done o → o.own ≡ Ok (flat, end) → end ≤ length src.body
own_ends src done o flat end is_open is = subst (λ (own : Result (FlatParts × ℕ) ByteFault). EndsBefore own (length src.body)) is is_open.ends

pub closed_by_finish : (src : Sections) (old new : Table) (o : Open) (flat : FlatParts) (end : ℕ) → o.own ≡ Ok (flat, end) → IsFinished src old new o.named end → IsClosed src old new o
closed_by_finish src old new o flat end is finished = record {
  kept = finished.kept;
  answered = λ holder below. finished.answered holder (subst (λ (own : Result (FlatParts × ℕ) ByteFault). EndsBefore own holder) is below.1);
  room = λ from to below. finished.room from to (subst (λ (own : Result (FlatParts × ℕ) ByteFault). EndsBefore own from) is below.1);
}

pub closed_if : (src : Sections) (old new : Table) (o : Open) (flat : FlatParts) (end : ℕ) (r : Result (Unit {0}) ReadFault) → o.own ≡ Ok (flat, end) → OnOk r (IsFinished src old new o.named end)
    → OnOk r (IsClosed src old new o)
closed_if src old new o flat end (Ok u) is finished = closed_by_finish src old new o flat end is finished
closed_if src old new o flat end (Err e) is finished = tt
