-- Whether a type is identical to another one is told by what it wants of it at one level.
use Rattle.std.proofs.Common.{◌≡◌, ℕ, suc, Bool, true, false, ◌&&◌, ◌==◌, nat_eq, cond, List, [], ◌∷◌, ◌++◌, map, length, Ok, Err, refl, ap, sym, ◌∙◌, arith}
use Rattle.std.specs.Prelude.{Result}
use Rattle.std.proofs.lemmas.Bool.{eqb-true}
use Rattle.go_values.specs.declared.qualified.QName.{QName}
use Rattle.go_values.specs.declared.positions.Pos.{Pos}
use Rattle.code_tables.specs.declared.predeclared.Basic.{Basic}
use Rattle.code_tables.specs.declared.predeclared.Basic.TheVariants.{Any}
use Rattle.type_terms.specs.declared.literals.Dir.{Dir}
use Rattle.type_terms.specs.Shapes.{FieldOf, TermOf}
use Rattle.type_terms.specs.Names.{defined_name}
use Rattle.type_terms.specs.Trees.{Text, Tree, predeclared, named, parameter, alias, pointer, slice, array, chan, map_type}
use Rattle.type_terms.specs.Trees.{func, struct, interface, instance, union, Trees, no_types, types, Params, no_params}
use Rattle.type_terms.specs.Trees.{params, Fields, no_fields, fields, no_methods, methods, Terms, no_terms, terms}
use Rattle.type_terms.specs.Trees.{type_list, param_list, field_list, term_list}
use Rattle.type_terms.specs.TreeEquality.{same_basic, same_name, same_flag, same_dir}
use Rattle.replacement.specs.declared.faults.SetFault.{SetFault}
use Rattle.type_sets.specs.Covering.{Answer, Test, and_then, all_pass, aliased, same_length, same_tildes, settled, on_empty, on_predeclared, on_basic, on_named, on_pointer, on_slice, on_array, on_chan, on_map, on_func, on_struct, on_instance, on_union, alike, types_alike, params_alike, fields_alike, terms_alike}
use Rattle.type_sets.specs.Covering as covering
use Rattle.type_alike.specs.Sides.{Pair, pair}
use Rattle.type_alike.specs.Demands.{parts_where, sets_where, same_fields, in_step}
use Rattle.type_alike.specs.Comparing.{tree_demand}
use Rattle.covering_steps.specs.Steps.{Step, no, where_parts, by_demand, empty_step, step, IsSettling, each_passes, answered}

and_true : (a : Answer) → and_then a (Ok true) ≡ a
and_true (Ok true) = refl
and_true (Ok false) = refl
and_true (Err fault) = refl

and_again : (a b c : Answer) → and_then (and_then a b) c ≡ and_then a (and_then b c)
and_again (Ok true) b c = refl
and_again (Ok false) b c = refl
and_again (Err fault) b c = refl

left_of : (a b : Bool) → (a && b) ≡ true → a ≡ true
left_of true b is = refl
left_of false b is = is

right_of : (a b : Bool) → (a && b) ≡ true → b ≡ true
right_of true b is = is
right_of false b is = absurd (let e : false ≡ true = is in cc)

nested : (a b : Bool) (x y : Answer) → cond a (cond b x y) y ≡ cond (a && b) x y
nested true b x y = refl
nested false b x y = refl

count_mapped : {X Y : Type 0} (g : X → Y) (xs : List X) → length (map g xs) ≡ length xs
count_mapped g [] = refl
count_mapped g (x ∷ xs) = ap suc (count_mapped g xs)

same_counts : {X : Type 0} (g : X → Tree) (xs ys : List X) → length xs ≡ length ys → length (map g xs) ≡ length (map g ys)
same_counts g xs ys is = count_mapped g xs ∙ is ∙ sym (count_mapped g ys)

abbrev FieldTree : Type 0
FieldTree = FieldOf Pos Text Text Tree

fields_same : (home other : Text) (xs ys : List FieldTree) → covering.same_fields home other xs ys ≡ same_fields home other xs ys
fields_same home other [] [] = refl
fields_same home other [] (y ∷ ys) = refl
fields_same home other (x ∷ xs) [] = refl
fields_same home other (x ∷ xs) (y ∷ ys) = ap (λ b. covering.same_field home other x y && b) (fields_same home other xs ys)

fields_many : (home other : Text) (xs ys : List FieldTree) → covering.same_fields home other xs ys ≡ true → length xs ≡ length ys
fields_many home other [] [] is = refl
fields_many home other [] (y ∷ ys) is = absurd (let e : false ≡ true = is in cc)
fields_many home other (x ∷ xs) [] is = absurd (let e : false ≡ true = is in cc)
fields_many home other (x ∷ xs) (y ∷ ys) is =
    ap suc (fields_many home other xs ys (right_of (covering.same_field home other x y) (covering.same_fields home other xs ys) is))

tildes_many : (xs ys : List (TermOf Tree)) → same_tildes xs ys ≡ true → length xs ≡ length ys
tildes_many [] [] is = refl
tildes_many [] (y ∷ ys) is = absurd (let e : false ≡ true = is in cc)
tildes_many (x ∷ xs) [] is = absurd (let e : false ≡ true = is in cc)
tildes_many (x ∷ xs) (y ∷ ys) is = ap suc (tildes_many xs ys (right_of (same_flag x.tilde y.tilde) (same_tildes xs ys) is))

module _ (settle : Tree → Result Tree SetFault) (free : Test) (expand : QName → List Test → Test) (given : QName → Test) where
  abbrev f : Tree → Test
  f = alike settle free expand given

  abbrev says : Tree → Step → Answer
  says = answered f free

  abbrev passes : List Pair → Answer
  passes = each_passes f free

  abbrev steps : List Tree → List Tree → List Pair
  steps = in_step defined_name pair

  passes_append : (xs ys : List Pair) → passes (xs ++ ys) ≡ and_then (passes xs) (passes ys)
  passes_append [] ys = refl
  passes_append (x ∷ xs) ys = ap (and_then (f x.left x.right)) (passes_append xs ys) ∙ sym (and_again (f x.left x.right) (passes xs) (passes ys))

  stepped : (ts xs : List Tree) → length ts ≡ length xs → all_pass (map f ts) xs ≡ passes (steps ts xs)
  stepped [] [] is = refl
  stepped [] (x ∷ xs) is = absurd (omega (arith, is))
  stepped (t ∷ ts) [] is = absurd (omega (arith, is))
  stepped (t ∷ ts) (x ∷ xs) is = let less : length ts ≡ length xs = omega (arith, is) in ap (and_then (f t x)) (stepped ts xs less)

  types_tests : (xs : Trees) → types_alike settle free expand given xs ≡ map f (type_list xs)
  types_tests no_types = refl
  types_tests (types type rest) = ap (λ l. f type ∷ l) (types_tests rest)

  params_tests : (xs : Params) → params_alike settle free expand given xs ≡ map f (map (λ x. x.type) (param_list xs))
  params_tests no_params = refl
  params_tests (params pos name type rest) = ap (λ l. f type ∷ l) (params_tests rest)

  fields_tests : (xs : Fields) → fields_alike settle free expand given xs ≡ map f (map (λ x. x.type) (field_list xs))
  fields_tests no_fields = refl
  fields_tests (fields origin pos name type embedded tag rest) = ap (λ l. f type ∷ l) (fields_tests rest)

  terms_tests : (xs : Terms) → terms_alike settle free expand given xs ≡ map f (map (λ x. x.type) (term_list xs))
  terms_tests no_terms = refl
  terms_tests (terms tilde type rest) = ap (λ l. f type ∷ l) (terms_tests rest)

  -- where a test at the head is passed, the parts have to pass
  where_same : (x : Tree) (b : Bool) (a : Answer) (ps : List Pair) → (b ≡ true → a ≡ passes ps) → cond b a (Ok false) ≡ says x (by_demand (parts_where b ps))
  where_same x true a ps is = is refl
  where_same x false a ps is = refl

  where_cond : (x : Tree) (b : Bool) (a : Answer) (ps : List Pair) → (b ≡ true → a ≡ passes ps) → cond b a (Ok false) ≡ says x (cond b (where_parts ps) no)
  where_cond x true a ps is = is refl
  where_cond x false a ps is = refl

  flagged : (x : Tree) (b : Bool) → Ok b ≡ says x (by_demand (parts_where b []))
  flagged x true = refl
  flagged x false = refl

  flagged_by : (x : Tree) (b : Bool) → Ok b ≡ says x (cond b (where_parts []) no)
  flagged_by x true = refl
  flagged_by x false = refl

  no_sets : (x : Tree) (b : Bool) → Ok false ≡ says x (by_demand (sets_where b))
  no_sets x true = refl
  no_sets x false = refl

  says_cond : (x : Tree) (b : Bool) (s t : Step) → cond b (says x s) (says x t) ≡ says x (cond b s t)
  says_cond x true s t = refl
  says_cond x false s t = refl

  at_empty : (x : Tree) → on_empty settle free x ≡ says x (empty_step x)
  at_empty (interface home embedded own) = refl
  at_empty (predeclared basic) = flagged_by (predeclared basic) (same_basic Any basic)
  at_empty _ = refl

  at_basic : (basic : Basic) (x : Tree) → on_basic basic x ≡ says x (by_demand (tree_demand (pair (predeclared basic) x)))
  at_basic basic (predeclared other) = flagged (predeclared other) (same_basic (aliased basic) (aliased other))
  at_basic basic (interface home embedded own) = no_sets (interface home embedded own) (same_basic Any basic)
  at_basic basic _ = refl

  at_predeclared : (basic : Basic) (x : Tree) → on_predeclared settle free basic x ≡ says x (step (predeclared basic) x)
  at_predeclared basic x =
      (λ i. cond (same_basic Any basic) (at_empty x i) (at_basic basic x i))
      ∙ says_cond x (same_basic Any basic) (empty_step x) (by_demand (tree_demand (pair (predeclared basic) x)))

  at_named : (q : QName) (x : Tree) → on_named q x ≡ says x (step (named q) x)
  at_named q (named p) = flagged (named p) (same_name q p)
  at_named q _ = refl

  at_pointer : (t x : Tree) → on_pointer (f t) x ≡ says x (step (pointer t) x)
  at_pointer t (pointer u) = sym (and_true (f t u))
  at_pointer t _ = refl

  at_slice : (t x : Tree) → on_slice (f t) x ≡ says x (step (slice t) x)
  at_slice t (slice u) = sym (and_true (f t u))
  at_slice t _ = refl

  at_array : (size : ℕ) (t x : Tree) → on_array size (f t) x ≡ says x (step (array size t) x)
  at_array size t (array other u) = where_same (array other u) (nat_eq size other) (f t u) (pair t u ∷ []) (λ e. sym (and_true (f t u)))
  at_array size t _ = refl

  at_chan : (dir : Dir) (t x : Tree) → on_chan dir (f t) x ≡ says x (step (chan dir t) x)
  at_chan dir t (chan other u) = where_same (chan other u) (same_dir dir other) (f t u) (pair t u ∷ []) (λ e. sym (and_true (f t u)))
  at_chan dir t _ = refl

  at_map : (k t x : Tree) → on_map (f k) (f t) x ≡ says x (step (map_type k t) x)
  at_map k t (map_type l u) = ap (and_then (f k l)) (sym (and_true (f t u)))
  at_map k t _ = refl

  -- parameters and results
  at_func : (home : Text) (ins outs : Params) (v : Bool) (x : Tree)
      → on_func (params_alike settle free expand given ins) (params_alike settle free expand given outs) v x ≡ says x (step (func home ins outs v) x)
  at_func home ins outs v (func other own results flag) =
      (λ i. cond (same_flag v flag && ((counts ins i == length (param_list own)) && (counts outs i == length (param_list results))))
      (and_then (all_pass (params_tests ins i) (map (λ x. x.type) (param_list own))) (all_pass (params_tests outs i) (map (λ x. x.type) (param_list results)))) (Ok false))
      ∙ where_same (func other own results flag) form _ _ (λ e.
      let lengths = right_of (same_flag v flag) (same_length (param_list ins) (param_list own) && same_length (param_list outs) (param_list results)) e in
      let first = eqb-true _ _ (left_of (same_length (param_list ins) (param_list own)) (same_length (param_list outs) (param_list results)) lengths) in
      let second = eqb-true _ _ (right_of (same_length (param_list ins) (param_list own)) (same_length (param_list outs) (param_list results)) lengths) in
      (λ i. and_then
      (stepped (map (λ x. x.type) (param_list ins)) (map (λ x. x.type) (param_list own)) (same_counts (λ x. x.type) (param_list ins) (param_list own) first) i)
      (stepped (map (λ x. x.type) (param_list outs)) (map (λ x. x.type) (param_list results)) (same_counts (λ x. x.type) (param_list outs) (param_list results) second) i))
      ∙ sym (passes_append (steps (map (λ x. x.type) (param_list ins)) (map (λ x. x.type) (param_list own)))
      (steps (map (λ x. x.type) (param_list outs)) (map (λ x. x.type) (param_list results)))))
    where
      counts : (xs : Params) → length (params_alike settle free expand given xs) ≡ length (param_list xs)
      counts xs = ap length (params_tests xs) ∙ count_mapped f (map (λ x. x.type) (param_list xs)) ∙ count_mapped (λ x. x.type) (param_list xs)

      form : Bool
      form = same_flag v flag && (same_length (param_list ins) (param_list own) && same_length (param_list outs) (param_list results))
  at_func home ins outs v _ = refl

  at_struct : (home : Text) (inner : Fields) (x : Tree) → on_struct home inner (fields_alike settle free expand given inner) x ≡ says x (step (struct home inner) x)
  at_struct home inner (struct other own) =
      ap (λ l. cond (covering.same_fields home other (field_list inner) (field_list own)) (all_pass l (map (λ x. x.type) (field_list own))) (Ok false)) (fields_tests inner)
      ∙ where_same (struct other own) (covering.same_fields home other (field_list inner) (field_list own)) _
      (steps (map (λ x. x.type) (field_list inner)) (map (λ x. x.type) (field_list own)))
      (λ e. stepped (map (λ x. x.type) (field_list inner)) (map (λ x. x.type) (field_list own))
      (same_counts (λ x. x.type) (field_list inner) (field_list own) (fields_many home other (field_list inner) (field_list own) e)))
      ∙ ap (λ b. says (struct other own) (by_demand (parts_where b (steps (map (λ x. x.type) (field_list inner)) (map (λ x. x.type) (field_list own))))))
      (fields_same home other (field_list inner) (field_list own))
  at_struct home inner _ = refl

  at_union : (inner : Terms) (x : Tree) → on_union inner (terms_alike settle free expand given inner) x ≡ says x (step (union inner) x)
  at_union inner (union own) =
      ap (λ l. cond (same_tildes (term_list inner) (term_list own)) (all_pass l (map (λ x. x.type) (term_list own))) (Ok false)) (terms_tests inner)
      ∙ where_cond (union own) (same_tildes (term_list inner) (term_list own)) _
      (steps (map (λ x. x.type) (term_list inner)) (map (λ x. x.type) (term_list own)))
      (λ e. stepped (map (λ x. x.type) (term_list inner)) (map (λ x. x.type) (term_list own))
      (same_counts (λ x. x.type) (term_list inner) (term_list own) (tildes_many (term_list inner) (term_list own) e)))
  at_union inner _ = refl

  at_instance : (q : QName) (args : Trees) (x : Tree) → on_instance q (types_alike settle free expand given args) x ≡ says x (step (instance (named q) args) x)
  at_instance q args (instance (named p) own) =
      ap (λ l. cond (same_name q p) (cond (length l == length (type_list own)) (all_pass l (type_list own)) (Ok false)) (Ok false)) (types_tests args)
      ∙ nested (same_name q p) (length (map f (type_list args)) == length (type_list own)) (all_pass (map f (type_list args)) (type_list own)) (Ok false)
      ∙ ap (λ n. cond (same_name q p && (n == length (type_list own))) (all_pass (map f (type_list args)) (type_list own)) (Ok false)) (count_mapped f (type_list args))
      ∙ where_same (instance (named p) own) (same_name q p && same_length (type_list args) (type_list own)) _ (steps (type_list args) (type_list own))
      (λ e. stepped (type_list args) (type_list own) (eqb-true _ _ (right_of (same_name q p) (same_length (type_list args) (type_list own)) e)))
  at_instance q args (instance _ own) = refl
  at_instance q args _ = refl

  pub by_step : (type : Tree) → IsSettling type → f type ≡ settled settle free (λ x. says x (step type x))
  by_step (parameter q) is = absurd is
  by_step (alias q) is = absurd is
  by_step (instance (named q) args) is = ap (settled settle free) (λ i x. at_instance q args x i)
  by_step (instance _ args) is = absurd is
  by_step (interface home no_types no_methods) is = ap (settled settle free) (λ i x. at_empty x i)
  by_step (interface home no_types (methods origin pos name ins outs variadic rest)) is = absurd is
  by_step (interface home (types type rest) own) is = absurd is
  by_step (predeclared basic) is = ap (settled settle free) (λ i x. at_predeclared basic x i)
  by_step (named q) is = ap (settled settle free) (λ i x. at_named q x i)
  by_step (pointer type) is = ap (settled settle free) (λ i x. at_pointer type x i)
  by_step (slice type) is = ap (settled settle free) (λ i x. at_slice type x i)
  by_step (array size type) is = ap (settled settle free) (λ i x. at_array size type x i)
  by_step (chan dir type) is = ap (settled settle free) (λ i x. at_chan dir type x i)
  by_step (map_type key type) is = ap (settled settle free) (λ i x. at_map key type x i)
  by_step (func home ins outs variadic) is = ap (settled settle free) (λ i x. at_func home ins outs variadic x i)
  by_step (struct home inner) is = ap (settled settle free) (λ i x. at_struct home inner x i)
  by_step (union inner) is = ap (settled settle free) (λ i x. at_union inner x i)
