-- Right sides are read one by one.
use Rattle.std.proofs.Common.{◌≡◌, ◌⊎◌, inl, inr, ℕ, ◌<◌, ◌+◌, zero, suc, Bool, true, false, cond, List, [], ◌∷◌, ◌++◌, length, take, slice_get, Option, Some, None, Ok, Err, refl, ap, sym, subst, ◌∙◌, arith, append_assoc}
use Rattle.std.specs.Prelude.{option_map}
use Rattle.std.specs.List.{All, Contains}
use Rattle.std.proofs.lemmas.List.{append-nil}
use Rattle.std.proofs.lemmas.List.Elements.{Contains-push_cases}
use Rattle.go_values.specs.declared.positions.Pos.{Pos}
use Rattle.go_values.specs.declared.qualified.QName.{QName}
use Rattle.go_values.specs.Exact.{exact_qname}
use Rattle.go_values.specs.contracts.qualified.QNameEq.TheImpl.Laws as qname_laws
use Rattle.type_terms.specs.Additions.{Outgrows}
use Rattle.type_terms.specs.Arenas.{Contents, AllBelow, Extends}
use Rattle.type_terms.specs.DeclarationRules.{IsTypeParameter, IsProperDecl}
use Rattle.type_terms.specs.Declarations.{Decl, var_of, function_of, constant_of, defined_of, renamed_of, type_parameter_of}
use Rattle.type_terms.specs.declared.descriptors.Node.{Node}
use Rattle.type_terms.specs.Extensions.{extends_tree, extends_longer}
use Rattle.type_terms.specs.Replaced.{all_left, all_right}
use Rattle.type_terms.specs.Trees.{Tree}
use Rattle.type_terms.specs.TreeEquality.{same_name}
use Rattle.environments.specs.declared.declaring.EnvError.{EnvError}
use Rattle.environments.specs.declared.declaring.EnvError.TheVariants.{Unknown, Damaged, TableFull, Nodes as EnvNodes, OutOfMemory as EnvMemory}
use Rattle.environments.specs.Environments.{Entry, Answers, declared, damaged, entry_types}
use Rattle.environments.specs.Kept.{OpensBehind}
use Rattle.environments.specs.KeptLaws.{behind_wider, outgrown_by_declare}
use Rattle.environments.specs.OpenedTypes.{AddsAmong}
use Rattle.replacement.specs.declared.faults.SetFault.{SetFault}
use Rattle.replacement.specs.declared.faults.SetFault.TheVariants.{Env}
use Rattle.replacement.specs.Expansion.{Entries, then, known}
use Rattle.replacement.specs.Calls.{Stops}
use Rattle.replacement.proofs.KeptLemmas.{stops_later}
use Rattle.type_sets.specs.TermTests.{right_of, no_cycle}
use Rattle.term_tests.specs.Mentions.{declared_right, IsMentioned, OpensMentioned}
use Rattle.term_tests.specs.Walks.{IsEnding, AreRanked, AreOrdered}
use Rattle.term_tests.proofs.ListLemmas.{here_of, later_of}
use Rattle.right_sides.specs.declared.rights.Right.{Right}
use Rattle.right_sides.specs.Tables.{told, Table, Sides, side_of, table_of, AreWithin}
use Rattle.right_sides.specs.Readings.{IsTold, AreTold, IsFree, IsPut, Adds, CoversAlike}
use Rattle.right_sides.proofs.ParameterLemmas.{take_next}
use Rattle.right_sides.proofs.TellingLemmas.{covers_alike}

is_itself : (q : QName) → same_name q q ≡ true
is_itself q = qname_laws.laws-law.refl q

-- the declaration of an alias
pub record IsAlias (entries : Entries) (q : QName) (right : Tree) : Type 0 where
  pub pos : Pos
  pub tparams : List Tree
  pub is : known (entries q) q ≡ Ok (renamed_of pos tparams right)
  pub own : entries q ≡ Some (declared (renamed_of pos tparams right))

pub is_alias : (entries : Entries) (q : QName) (right : Tree) → declared_right entries q ≡ Ok right → IsAlias entries q right
is_alias entries q right is = by (entries q) refl is
  where
    by : (o : Option Entry) → entries q ≡ o → then (known o q) (right_of q) ≡ Ok right → IsAlias entries q right
    by None e h = absurd cc
    by (Some (damaged fault read)) e h = absurd cc
    by (Some (declared (var_of pos type))) e h = absurd cc
    by (Some (declared (function_of pos tparams sig))) e h = absurd cc
    by (Some (declared (constant_of pos type value))) e h = absurd cc
    by (Some (declared (defined_of pos tparams under own))) e h = absurd cc
    by (Some (declared (type_parameter_of pos implicit constraint))) e h = absurd cc
    by (Some (declared (renamed_of pos tparams other))) e h =
        let same : other ≡ right = cc in
        record {
          pos = pos;
          tparams = tparams;
          is = ap (λ o. known o q) e ∙ ap (λ (t : Tree). Ok (renamed_of pos tparams t)) same;
          own = e ∙ ap (λ (t : Tree). Some (declared (renamed_of pos tparams t))) same;
        }

-- What one declaration gives.
pub ask_stops : (entries : Entries) (q : QName) (before after : Contents) (full : Option Bool) (e : EnvError) → Answers (entries q) q after full (Err e)
    → (e ≡ EnvNodes → Outgrows before (entry_types (entries q)))
    → Stops (OpensBehind entries (λ name. name ≡ q)) before full (Env e) (known (entries q) q ≡ Err (Env e))
ask_stops entries q before after full (Unknown name) answer full_by = ap (λ o. known o q) answer.0 ∙ ap (λ n. Err (Env (Unknown n))) (sym answer.1)
ask_stops entries q before after full (Damaged name fault) answer full_by = ap (λ o. known o q) answer.0.1 ∙ ap (λ n. Err (Env (Damaged n fault))) (sym answer.1)
ask_stops entries q before after full TableFull answer full_by = answer
ask_stops entries q before after full EnvNodes answer full_by = outgrown_by_declare entries q before (full_by refl)
ask_stops entries q before after full EnvMemory answer full_by = tt

pub right_below : (bound : ℕ) (tparams : List ℕ) (right : ℕ) → AllBelow bound (tparams ++ right ∷ []) → right < bound
right_below bound tparams right all = (all_right (λ n. n < bound) tparams (right ∷ []) all).0

pub tparams_below : (bound : ℕ) (tparams : List ℕ) (right : ℕ) → AllBelow bound (tparams ++ right ∷ []) → AllBelow bound tparams
tparams_below bound tparams right all = all_left (λ n. n < bound) tparams (right ∷ []) all

-- What is told stays as an arena is extended.
module _ (old new : Contents) (grown : Extends old new) (sides : Sides) (within : AreWithin (length old.nodes) sides) where
  pub within_stays : AreWithin (length new.nodes) sides
  within_stays q x is = let longer = extends_longer old new grown in let below = within q x is in omega (arith, longer, below)

  pub table_stays : (q : QName) → table_of new.nodes sides q ≡ table_of old.nodes sides q
  table_stays q = by (side_of sides q) refl
    where
      by : (o : Option Right) → side_of sides q ≡ o → option_map (told new.nodes) (side_of sides q) ≡ option_map (told old.nodes) (side_of sides q)
      by None e = ap (option_map (told new.nodes)) e ∙ sym (ap (option_map (told old.nodes)) e)
      by (Some x) e =
          ap (option_map (told new.nodes)) e
          ∙ ap (λ (t : Tree). Some (record { names = x.tparams.items; right = t })) (extends_tree old new grown x.ty (within q x e))
          ∙ sym (ap (option_map (told old.nodes)) e)

pub none_within : (n : ℕ) → AreWithin n []
none_within n q x is = absurd cc

-- one right side more
module _ (nodes : List Node) (q : QName) (tparams : List Tree) (right : Tree) (old new : Sides) (put : IsPut nodes q tparams right old new) where
  pub put_within : AreWithin (length nodes) old → AreWithin (length nodes) new
  put_within within other x is = by (same_name q other) (sym (put.puts other) ∙ is)
    where
      by : (b : Bool) → cond b (Some put.side) (side_of old other) ≡ Some x → x.ty < length nodes
      by true e = let same : put.side ≡ x = cc in subst (λ (s : Right). s.ty < length nodes) same put.there
      by false e = within other x e

  pub put_told : (entries : Entries) (pos : Pos) → All IsTypeParameter tparams → known (entries q) q ≡ Ok (renamed_of pos tparams right)
      → (done : List QName) → AreTold entries done (table_of nodes old) → AreTold entries (done ++ q ∷ []) (table_of nodes new)
  put_told entries pos are is done was p held = by (same_name q p) refl (Contains-push_cases done q p held)
    where
      here_put : (other : QName) (b : Bool) → same_name q other ≡ b → table_of nodes new other ≡ option_map (told nodes) (cond b (Some put.side) (side_of old other))
      here_put other b e = ap (option_map (told nodes)) (put.puts other ∙ ap (λ c. cond c (Some put.side) (side_of old other)) e)

      this : (other : QName) → q ≡ other → IsTold entries (table_of nodes new) other
      this other same = subst (IsTold entries (table_of nodes new)) same (record {
        pos = pos;
        tparams = tparams;
        right = right;
        are = are;
        declared = is;
        is = here_put q true (is_itself q) ∙ (λ i. Some (record { names = put.names i; right = put.denotes i }));
      })

      by : (b : Bool) → same_name q p ≡ b → Contains done p ⊎ (q ≡ p) → IsTold entries (table_of nodes new) p
      by true e known_by = this p (exact_qname q p e)
      by false e (inr same) = this p same
      by false e (inl early) = let before = was p early in record {
        pos = before.pos;
        tparams = before.tparams;
        right = before.right;
        are = before.are;
        declared = before.declared;
        is = here_put p false e ∙ before.is;
      }

module _ (entries : Entries) where
  ranked_in : (before qs : List QName) (k : ℕ) (q : QName) → AreRanked entries before qs → slice_get qs k ≡ Some q → IsEnding entries q (Contains (before ++ take k qs))
  ranked_in before [] k q all there = absurd cc
  ranked_in before (x ∷ xs) zero q all there =
      let same : x ≡ q = cc in
      subst (λ o. IsEnding entries o (Contains (before ++ []))) same (subst (λ l. IsEnding entries x (Contains l)) (sym (append-nil before)) all.0)
  ranked_in before (x ∷ xs) (suc k) q all there =
      subst (λ l. IsEnding entries q (Contains l)) (append_assoc before (x ∷ []) (take k xs)) (ranked_in (before ++ x ∷ []) xs k q all.1 there)

  pub ranked_at : (order : List QName) (k : ℕ) (q : QName) → AreRanked entries [] order → slice_get order k ≡ Some q → IsEnding entries q (Contains (take k order))
  ranked_at order k q all there = ranked_in [] order k q all there

-- The next alias of an order.
module _ (entries : Entries) (order : List QName) (ranked : AreRanked entries [] order) (k : ℕ) (q : QName) (there : slice_get order k ≡ Some q)
    (later : Entries) (stay : later ≡ entries) where
  in_order : (n : QName) → n ≡ q → Contains order n
  in_order n same = subst (Contains order) (sym same) (at order k there)
    where
      at : (xs : List QName) (j : ℕ) → slice_get xs j ≡ Some q → Contains xs q
      at [] j is = absurd cc
      at (x ∷ xs) zero is = let head : x ≡ q = cc in subst (Contains (x ∷ xs)) head (here_of x xs)
      at (x ∷ xs) (suc j) is = later_of x xs q (at xs j is)

  pub asked_in_order : (n : QName) → n ≡ q → Contains order n
  asked_in_order n same = in_order n same

  pub opened_in_order : (t : Tree) → OpensBehind later (λ n. n ≡ q) t → OpensBehind entries (Contains order) t
  opened_in_order t opened = (opened.0, in_order opened.0 opened.1, subst (λ (e : Entries). Contains (entry_types (e opened.0)) t) stay opened.2)

  -- a fault can only come of want of memory or room
  pub adds_free : (old new : Sides) (start before after : Contents) (full : Option Bool) (fault : SetFault) → Extends start before
      → AddsAmong (OpensBehind entries (Contains order)) start before → Adds later q old new before after full (Err fault)
      → IsFree (OpensBehind entries (Contains order)) start full fault
  adds_free old new start before after full fault grown adds stops =
      let ending = ranked_at entries order k q ranked there in
      let own = is_alias entries q ending.right ending.right_is in
      stops_later (OpensBehind later (λ n. n ≡ q)) (OpensBehind entries (Contains order)) start before opened_in_order grown adds full fault (known (later q) q ≡ Err fault) ⊥
      (λ failed. let now = subst (λ (e : Entries). known (e q) q ≡ Err fault) stay failed in wrong (renamed_of own.pos own.tparams ending.right) fault (sym own.is ∙ now)) stops
    where
      wrong : (decl : Decl) (f : SetFault) → Ok decl ≡ Err f → ⊥
      wrong decl f is = (cc)

  -- one more is told of
  module _ (proper : (n : QName) (decl : Decl) → entries n ≡ Some (declared decl) → IsProperDecl decl) (old new : Sides) (before after : Contents) (full : Option Bool)
      (grown : Extends before after) (within : AreWithin (length before.nodes) old) (adds : Adds later q old new before after full (Ok tt)) where
    own : IsAlias entries q (ranked_at entries order k q ranked there).right
    own = let ending = ranked_at entries order k q ranked there in is_alias entries q ending.right ending.right_is

    put : IsPut after.nodes q own.tparams (ranked_at entries order k q ranked there).right old new
    put = adds own.tparams (ranked_at entries order k q ranked there).right own.pos
        (subst (λ (e : Entries). known (e q) q ≡ Ok (renamed_of own.pos own.tparams (ranked_at entries order k q ranked there).right)) (sym stay) own.is)

    pub more_within : AreWithin (length after.nodes) new
    more_within = put_within after.nodes q own.tparams (ranked_at entries order k q ranked there).right old new put (within_stays before after grown old within)

    pub more_told : AreTold entries (take k order) (table_of before.nodes old) → AreTold entries (take (k + 1) order) (table_of after.nodes new)
    more_told was =
        let e : suc k ≡ k + 1 = omega arith in
        let right = (ranked_at entries order k q ranked there).right in
        let same : table_of before.nodes old ≡ table_of after.nodes old = λ i p. sym (table_stays before after grown old within p) i in
        subst (λ l. AreTold entries l (table_of after.nodes new)) (sym (take_next order k q there) ∙ ap (λ n. take n order) e)
        (put_told after.nodes q own.tparams right old new put entries own.pos
        (proper q (renamed_of own.pos own.tparams right) own.own).form.0 own.is (take k order)
        (subst (AreTold entries (take k order)) same was))

-- All right sides of a type.
module _ (entries : Entries) (names : List QName) (type : Tree) (order : List QName) (ordered : AreOrdered entries names type order) (later : Entries) (stay : later ≡ entries) where
  pub order_asked : (q : QName) → Contains order q → IsMentioned entries type q
  order_asked q held = ordered.only q held

  pub order_opened : (t : Tree) → OpensBehind later (Contains order) t → OpensMentioned entries type t
  order_opened t opened = behind_wider entries (Contains order) (IsMentioned entries type) order_asked t (subst (λ (e : Entries). OpensBehind e (Contains order) t) stay opened)

  pub read_stops : (start middle : Contents) (full : Option Bool) (fault : SetFault) → Extends start middle → AddsAmong (OpensMentioned entries type) start middle
      → IsFree (OpensBehind later (Contains order)) middle full fault → Stops (OpensMentioned entries type) start full fault (no_cycle entries names type ≡ Err fault)
  read_stops start middle full fault grown adds free =
      stops_later (OpensBehind later (Contains order)) (OpensMentioned entries type) start middle order_opened grown adds full fault ⊥ (no_cycle entries names type ≡ Err fault) (λ none. absurd none) free

  pub read_covers : (table : Table) → AreTold later order table → CoversAlike entries names type table (length order)
  read_covers table all settle free =
      covers_alike settle free entries table names order type ordered.ranked (subst (λ (e : Entries). AreTold e order table) stay all) ordered.all ordered.few
