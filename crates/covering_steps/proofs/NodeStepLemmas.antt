-- What nodes want of each other is what their types want.
use Rattle.std.proofs.Common.{◌≡◌, ℕ, ◌≤◌, ◌≢◌, ◌+◌, zero, suc, Bool, true, false, ◌&&◌, ◌==◌, cond, List, [], ◌∷◌, ◌++◌, map, length, drop, slice_get, Option, Some, None, refl, ap, sym, ◌∙◌, arith, append_assoc}
use Rattle.std.specs.Prelude.{option_map}
use Rattle.std.proofs.lemmas.List.{append-nil}
use Rattle.go_values.specs.declared.positions.Pos.{Pos}
use Rattle.type_terms.specs.declared.descriptors.Node.{Node}
use Rattle.type_terms.specs.declared.descriptors.Node.TheVariants.{Iface}
use Rattle.type_terms.specs.declared.literals.IMethod.{IMethod}
use Rattle.type_terms.specs.declared.literals.Term.{Term}
use Rattle.type_terms.specs.Denotation.{tree}
use Rattle.type_terms.specs.Names.{defined_name}
use Rattle.type_terms.specs.NodeShapes.{term_shape}
use Rattle.type_terms.specs.Shapes.{term_map}
use Rattle.type_terms.specs.Trees.{Text, Tree, Terms, terms_of, term_list, union}
use Rattle.type_terms.specs.TreeEquality.{same_flag}
use Rattle.type_sets.specs.Covering.{same_tildes}
use Rattle.type_alike.specs.Sides.{Pair as TreePair, pair}
use Rattle.type_alike.specs.Demands.{in_step}
use Rattle.type_demands.specs.declared.demands.Pair.{Pair}
use Rattle.type_demands.specs.NodeDemands.{node_pair}
use Rattle.covering_steps.specs.Steps.{Step, no, where_parts, where_free, union_step, step}
use Rattle.covering_steps.specs.NodeSteps.{terms_in_step, pairs_step, node_type}

module _ (nodes : List Node) where
  abbrev meant_terms : List Term → Terms
  meant_terms xs = terms_of (map (term_map (λ (x : Pos). x) (λ (x : Text). x) (λ (x : Text). x) (tree nodes)) (map term_shape xs))

  abbrev prefixed : Term → Term → Step → Step
  prefixed x y no = no
  prefixed x y (where_parts ps) = where_parts (pair (tree nodes x.ty) (tree nodes y.ty) ∷ ps)
  prefixed x y where_free = where_free

  one_more : (x y : Term) (o : Option (List Pair)) → pairs_step nodes (option_map (λ rest. node_pair x.ty y.ty ∷ rest) o) ≡ prefixed x y (pairs_step nodes o)
  one_more x y None = refl
  one_more x y (Some ps) = refl

  if_more : (x y : Term) (b : Bool) (ps : List TreePair) → prefixed x y (cond b (where_parts ps) no) ≡ cond b (where_parts (pair (tree nodes x.ty) (tree nodes y.ty) ∷ ps)) no
  if_more x y true ps = refl
  if_more x y false ps = refl

  pub unions_meant : (xs ys : List Term) → pairs_step nodes (terms_in_step xs ys) ≡ union_step (meant_terms xs) (union (meant_terms ys))
  unions_meant [] [] = refl
  unions_meant [] (y ∷ ys) = refl
  unions_meant (x ∷ xs) [] = refl
  unions_meant (x ∷ xs) (y ∷ ys) = by (same_flag x.tilde y.tilde) (unions_meant xs ys)
    where
      by : (b : Bool) → pairs_step nodes (terms_in_step xs ys) ≡ union_step (meant_terms xs) (union (meant_terms ys))
          → pairs_step nodes (cond b (option_map (λ rest. node_pair x.ty y.ty ∷ rest) (terms_in_step xs ys)) None)
          ≡ cond (b && same_tildes (term_list (meant_terms xs)) (term_list (meant_terms ys)))
          (where_parts (pair (tree nodes x.ty) (tree nodes y.ty) ∷ in_step defined_name pair (map (λ z. z.type) (term_list (meant_terms xs))) (map (λ z. z.type) (term_list (meant_terms ys))))) no
      by true rest = one_more x y (terms_in_step xs ys) ∙ ap (prefixed x y) rest ∙ if_more x y (same_tildes (term_list (meant_terms xs)) (term_list (meant_terms ys))) _
      by false rest = refl

drop_next : {X : Type 0} (xs : List X) (k : ℕ) (x : X) → slice_get xs k ≡ Some x → drop k xs ≡ x ∷ drop (suc k) xs
drop_next [] k x is = absurd cc
drop_next (y ∷ xs) zero x is = let same : y ≡ x = cc in ap (λ z. z ∷ xs) same
drop_next (y ∷ xs) (suc k) x is = drop_next xs k x is

drop_past : {X : Type 0} (xs : List X) (k : ℕ) → length xs ≤ k → drop k xs ≡ []
drop_past [] zero past = refl
drop_past [] (suc k) past = refl
drop_past (x ∷ xs) zero past = absurd (omega (arith, past))
drop_past (x ∷ xs) (suc k) past = drop_past xs k (omega (arith, past))

-- pairs that were found, before those that are to be
abbrev pub joined : List Pair → Option (List Pair) → Option (List Pair)
joined found more = option_map (λ rest. found ++ rest) more

pub none_found : (o : Option (List Pair)) → joined [] o ≡ o
none_found None = refl
none_found (Some ps) = refl

pub uneven : (xs ys : List Term) → length xs ≢ length ys → terms_in_step xs ys ≡ None
uneven [] [] other = absurd (other refl)
uneven [] (y ∷ ys) other = refl
uneven (x ∷ xs) [] other = refl
uneven (x ∷ xs) (y ∷ ys) other = by (same_flag x.tilde y.tilde) (terms_in_step xs ys) (uneven xs ys (λ e. other (ap suc e)))
  where
    by : (b : Bool) (o : Option (List Pair)) → o ≡ None → cond b (option_map (λ rest. node_pair x.ty y.ty ∷ rest) o) None ≡ None
    by true o is = ap (option_map (λ rest. node_pair x.ty y.ty ∷ rest)) is
    by false o is = refl

module _ (xs ys : List Term) (k : ℕ) (x y : Term) (left : slice_get xs k ≡ Some x) (right : slice_get ys k ≡ Some y) (found : List Pair) (all : Option (List Pair))
    (so_far : joined found (terms_in_step (drop k xs) (drop k ys)) ≡ all) where
  next_terms : terms_in_step (drop k xs) (drop k ys) ≡ cond (same_flag x.tilde y.tilde) (option_map (λ rest. node_pair x.ty y.ty ∷ rest) (terms_in_step (drop (suc k) xs) (drop (suc k) ys))) None
  next_terms = λ i. terms_in_step (drop_next xs k x left i) (drop_next ys k y right i)

  pub one_differs : same_flag x.tilde y.tilde ≡ false → None ≡ all
  one_differs is =
      ap (λ b. joined found (cond b (option_map (λ rest. node_pair x.ty y.ty ∷ rest) (terms_in_step (drop (suc k) xs) (drop (suc k) ys))) None)) (sym is)
      ∙ ap (joined found) (sym next_terms) ∙ so_far

  pub one_found : same_flag x.tilde y.tilde ≡ true → (new : List Pair) → new ≡ found ++ node_pair x.ty y.ty ∷ [] → joined new (terms_in_step (drop (k + 1) xs) (drop (k + 1) ys)) ≡ all
  one_found is new grown =
      let on : k + 1 ≡ suc k = omega arith in
      (λ i. joined (grown i) (terms_in_step (drop (on i) xs) (drop (on i) ys)))
      ∙ moved (terms_in_step (drop (suc k) xs) (drop (suc k) ys))
      ∙ ap (λ b. joined found (cond b (option_map (λ rest. node_pair x.ty y.ty ∷ rest) (terms_in_step (drop (suc k) xs) (drop (suc k) ys))) None)) (sym is)
      ∙ ap (joined found) (sym next_terms) ∙ so_far
    where
      moved : (o : Option (List Pair)) → joined (found ++ node_pair x.ty y.ty ∷ []) o ≡ joined found (option_map (λ rest. node_pair x.ty y.ty ∷ rest) o)
      moved None = refl
      moved (Some ps) = ap Some (append_assoc found (node_pair x.ty y.ty ∷ []) ps)

pub all_found : (xs ys : List Term) (k : ℕ) (found : List Pair) (all : Option (List Pair)) → length xs ≤ k → length ys ≤ k
    → joined found (terms_in_step (drop k xs) (drop k ys)) ≡ all → Some found ≡ all
all_found xs ys k found all left right so_far =
    ap Some (sym (append-nil found)) ∙ (λ i. joined found (terms_in_step (sym (drop_past xs k left) i) (sym (drop_past ys k right) i))) ∙ so_far

pub flags_same : (a b : Bool) → a ≡ b → same_flag a b ≡ true
flags_same true true is = refl
flags_same false false is = refl
flags_same true false is = absurd (let e : true ≡ false = is in cc)
flags_same false true is = absurd (let e : false ≡ true = is in cc)

pub flags_differ : (a b : Bool) → a ≢ b → same_flag a b ≡ false
flags_differ true true is = absurd (is refl)
flags_differ false false is = absurd (is refl)
flags_differ true false is = refl
flags_differ false true is = refl

-- an interface that holds something covers nothing
pub iface_elements : (nodes : List Node) (node : Node) (home : List ℕ) (e : List ℕ) (m : List IMethod) (x : Tree) → node ≡ Iface home e m → (length e == 0) ≡ false
    → no ≡ step (node_type nodes node) x
iface_elements nodes node home [] m x is none = absurd (let r : true ≡ false = none in cc)
iface_elements nodes node home (i ∷ e) m x is none = ap (λ n. step (node_type nodes n) x) (sym is)

pub iface_methods : (nodes : List Node) (node : Node) (home : List ℕ) (e : List ℕ) (m : List IMethod) (x : Tree) → node ≡ Iface home e m → (length m == 0) ≡ false
    → no ≡ step (node_type nodes node) x
iface_methods nodes node home e [] x is none = absurd (let r : true ≡ false = none in cc)
iface_methods nodes node home [] (a ∷ m) x is none = ap (λ n. step (node_type nodes n) x) (sym is)
iface_methods nodes node home (i ∷ e) (a ∷ m) x is none = ap (λ n. step (node_type nodes n) x) (sym is)
