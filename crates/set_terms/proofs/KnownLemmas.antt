-- What is known of interfaces, as it is meant, and where its terms stand.
use Rattle.std.proofs.Common.{◌≡◌, ℕ, Bool, true, false, cond, List, [], ◌∷◌, ◌++◌, Option, Some, None, Ok, Err, refl, ap, sym, subst, ◌∙◌}
use Rattle.std.specs.Prelude.{Result, nat_eq, IfSome, OnOk}
use Rattle.std.proofs.lemmas.Cmp.{nat_eq_equiv}
use Rattle.std.proofs.lemmas.List.{map-append}
use Rattle.type_terms.specs.declared.descriptors.Node.{Node}
use Rattle.type_terms.specs.declared.literals.Term.{Term as Code}
use Rattle.type_terms.specs.Arenas.{Contents}
use Rattle.type_terms.specs.Denotation.{tree}
use Rattle.type_terms.specs.Trees.{Tree}
use Rattle.type_terms.specs.TreeEquality.{same_tree}
use Rattle.interface_opening.specs.Elements.{Term, ends_element}
use Rattle.interface_opening.specs.Terms.{more_terms, meet, with_union, with_whole}
use Rattle.interface_opening.specs.Terms as fold
use Rattle.replacement.specs.declared.faults.SetFault.{SetFault}
use Rattle.replacement.specs.declared.faults.SetFault.TheVariants.{OutOfMemory}
use Rattle.replacement.specs.Calls.{Stops}
use Rattle.type_sets.specs.Covering.{Answer}
use Rattle.type_sets.specs.TypeSets.{same_term}
use Rattle.common_terms.specs.Calls.{AllWithin}
use Rattle.common_terms.specs.Comparing.{term_meant}
use Rattle.set_terms.specs.Needed.{changed}
use Rattle.set_terms.specs.Shares.{Codes, joined, put}
use Rattle.set_terms.specs.Known.{Known, Holds, IsAdded, Takes}
use Rattle.set_terms.specs.Meant.{choice_meant, sum_at, term_kept, HasSum, GivesSum}

put_here : (holder : ℕ) (codes : Codes) (table : ℕ → Codes) → put holder codes table holder ≡ codes
put_here holder codes table = ap (λ b. cond b codes (table holder)) (nat_eq_equiv.refl holder)

put_past : (holder : ℕ) (codes : Codes) (table : ℕ → Codes) (id : ℕ) → nat_eq holder id ≡ false → put holder codes table id ≡ table id
put_past holder codes table id past = ap (λ b. cond b codes (table id)) past

-- ---- what is meant

module _ (nodes : List Node) (covered : Term Tree → Term Tree → Answer) where
  joined_meant : (a b : Codes) → choice_meant nodes (joined a b) ≡ more_terms (choice_meant nodes a) (choice_meant nodes b)
  joined_meant (Some xs) (Some ys) = ap Some (map-append (term_meant nodes) xs ys)
  joined_meant (Some xs) None = refl
  joined_meant None b = refl

  -- terms came to a union
  pub added_sum : (holder : ℕ) (codes : Codes) (old new : Known) → IsAdded holder codes old new
      → HasSum nodes holder old new (Ok (with_union same_tree same_term covered (sum_at nodes old holder) (choice_meant nodes codes)))
  added_sum holder codes old new added =
      let whole = ap (choice_meant nodes) (sym (added.wholes holder)) in
      let union = sym (joined_meant (old.unions holder) codes)
      ∙ ap (choice_meant nodes) (sym (added.unions holder ∙ put_here holder (joined (old.unions holder) codes) old.unions)) in
      record {
        here = λ i. Ok (record { of = tree nodes holder; whole = whole i; union = union i });
        wholes = λ id past. added.wholes id;
        unions = λ id past. added.unions id ∙ put_past holder (joined (old.unions holder) codes) old.unions id past;
      }

  -- an element ended
  pub ended_sum : (holder : ℕ) (old new : Known) (left : Codes)
      → ((id : ℕ) → new.wholes id ≡ put holder left (put holder None old.wholes) id)
      → ((id : ℕ) → new.unions id ≡ put holder (Some []) old.unions id)
      → meet same_term covered (choice_meant nodes (old.wholes holder)) (choice_meant nodes (old.unions holder)) ≡ Ok (choice_meant nodes left)
      → HasSum nodes holder old new (changed same_tree same_term covered (sum_at nodes old) (term_kept nodes) (ends_element holder))
  ended_sum holder old new left wholes unions is =
      let whole = ap (choice_meant nodes) (sym (wholes holder ∙ put_here holder left (put holder None old.wholes))) in
      let union = ap (choice_meant nodes) (sym (unions holder ∙ put_here holder (Some []) old.unions)) in
      record {
        here = ap (λ r. fold.◌>>=◌ r (λ c. Ok (with_whole same_tree same_term covered (sum_at nodes old holder) c))) is
            ∙ (λ i. Ok (record { of = tree nodes holder; whole = whole i; union = union i }));
        wholes = λ id past. wholes id ∙ put_past holder left (put holder None old.wholes) id past ∙ put_past holder None old.wholes id past;
        unions = λ id past. unions id ∙ put_past holder (Some []) old.unions id past;
      }

  module _ (opens : Tree → Type 0) (before : Contents) (full : Option Bool) where
    no_memory : (fault : SetFault) (cause : SetFault → Type 0) → fault ≡ OutOfMemory → Stops opens before full fault (cause fault)
    no_memory fault cause is = subst (λ f. Stops opens before full f (cause f)) (sym is) tt

    pub memory_free : (fault : SetFault) (holder : ℕ) (old new : Known) (want : Result (fold.Sum Tree) SetFault) → fault ≡ OutOfMemory
        → GivesSum opens before full (Err fault) holder old new want
    memory_free fault holder old new want is = no_memory fault (λ f. want ≡ Err f) is

-- terms came to a union, or there was no memory for them
pub takes_gives : (covered : Term Tree → Term Tree → Answer) (opens : Tree → Type 0) (before : Contents) (full : Option Bool)
    (result : Result (Unit {0}) SetFault) (holder : ℕ) (codes : Codes) (old new : Known) → Takes holder codes old new result
    → GivesSum opens before full result holder old new (Ok (with_union same_tree same_term covered (sum_at before.nodes old holder) (choice_meant before.nodes codes)))
takes_gives covered opens before full (Ok u) holder codes old new added = added_sum before.nodes covered holder codes old new added
takes_gives covered opens before full (Err fault) holder codes old new is =
    memory_free before.nodes covered opens before full fault holder old new (Ok (with_union same_tree same_term covered (sum_at before.nodes old holder) (choice_meant before.nodes codes))) is

-- ---- where terms stand

module _ (n : ℕ) where
  abbrev Below : Codes → Type 0
  Below codes = IfSome codes (AllWithin n)

  append_within : (xs ys : List Code) → AllWithin n xs → AllWithin n ys → AllWithin n (xs ++ ys)
  append_within [] ys left right = right
  append_within (x ∷ xs) ys left right = (left.0, append_within xs ys left.1 right)

  joined_within : (a b : Codes) → Below a → Below b → Below (joined a b)
  joined_within (Some xs) (Some ys) left right = append_within xs ys left right
  joined_within (Some xs) None left right = tt
  joined_within None b left right = tt

  put_within : (holder : ℕ) (codes : Codes) (table : ℕ → Codes) → Below codes → ((id : ℕ) → Below (table id)) → (id : ℕ) → Below (put holder codes table id)
  put_within holder codes table here all id = by (nat_eq holder id)
    where
      by : (b : Bool) → Below (cond b codes (table id))
      by true = here
      by false = all id

  pub takes_holds : (holder : ℕ) (codes : Codes) (old new : Known) (result : Result (Unit {0}) SetFault) → Takes holder codes old new result
      → Below codes → Holds n old → OnOk result (Holds n new)
  takes_holds holder codes old new (Ok u) added own held = record {
    wholes = λ id. subst Below (sym (added.wholes id)) (held.wholes id);
    unions = λ id. subst Below (sym (added.unions id))
        (put_within holder (joined (old.unions holder) codes) old.unions (joined_within (old.unions holder) codes (held.unions holder) own) held.unions id);
  }
  takes_holds holder codes old new (Err fault) is own held = tt

  pub ended_holds : (holder : ℕ) (old new : Known) (left : Codes)
      → ((id : ℕ) → new.wholes id ≡ put holder left (put holder None old.wholes) id)
      → ((id : ℕ) → new.unions id ≡ put holder (Some []) old.unions id) → Below left → Holds n old → Holds n new
  ended_holds holder old new left wholes unions own held = record {
    wholes = λ id. subst Below (sym (wholes id)) (put_within holder left (put holder None old.wholes) own (put_within holder None old.wholes tt held.wholes) id);
    unions = λ id. subst Below (sym (unions id)) (put_within holder (Some []) old.unions tt held.unions id);
  }
