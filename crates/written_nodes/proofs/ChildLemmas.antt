-- The children of a node that is made are nodes of its arena.
use Rattle.std.proofs.Common.{◌≡◌, ℕ, zero, suc, ◌<◌, Bool, true, false, List, [], ◌∷◌, ◌++◌, length, map, Some, refl, sym, subst, arith}
use Rattle.std.specs.List.{AllByRecursion, flat_map}
use Rattle.std.proofs.lemmas.List.Sorted.{All-permutation}
use Rattle.std.proofs.lemmas.List.Elements.{All-from_recursion, recursion_from_All}
use Rattle.type_terms.specs.declared.literals.ParamNode.{ParamNode}
use Rattle.type_terms.specs.declared.literals.Sig.{Sig}
use Rattle.type_terms.specs.declared.literals.Field.{Field}
use Rattle.type_terms.specs.declared.literals.IMethod.{IMethod}
use Rattle.type_terms.specs.declared.literals.Term.{Term}
use Rattle.type_terms.specs.declared.descriptors.Node.{Node}
use Rattle.type_terms.specs.declared.descriptors.Node.TheVariants.{Predeclared, Named, Param, AliasName, Pointer, Slice, Array, Chan, MapOf, FuncOf, StructOf, Iface, Instance, Union}
use Rattle.type_terms.specs.Arenas.{IsNode, AllBelow, IsArena}
use Rattle.type_terms.specs.NodeShapes.{param_shape, sig_shape, field_shape, method_shape, term_shape, children}
use Rattle.type_terms.specs.Replaced.{all_append}
use Rattle.type_terms.specs.Shapes.{param_types, sig_types, field_types, method_types, term_types}
use Rattle.written_nodes.specs.Making.{param_made, sig_made, field_made, method_made, term_made}
use Rattle.written_nodes.specs.Nodes.{without_tilde, only_term, element_by, element_in, MakesNode}

there_is : (nodes : List Node) (n : ℕ) → n < length nodes → (node : Node) × IsNode nodes n node
there_is [] n h = absurd (omega arith)
there_is (x ∷ xs) zero h = (x, refl)
there_is (x ∷ xs) (suc n) h = there_is xs n (omega arith)

-- ---- embedded elements

module _ (bound : ℕ) where
  one_below : (tilde : Bool) (ty id : ℕ) → ty < bound → id < bound → without_tilde tilde ty id < bound
  one_below false ty id inner outer = inner
  one_below true ty id inner outer = outer

  term_below : (xs : List Term) (id : ℕ) → AllBelow bound (flat_map term_types (map term_shape xs)) → id < bound → only_term xs id < bound
  term_below [] id all outer = outer
  term_below (x ∷ []) id all outer = one_below x.tilde x.ty id all.0 outer
  term_below (x ∷ y ∷ rest) id all outer = outer

  element_below : (node : Node) (id : ℕ) → AllBelow bound (children node) → id < bound → element_by (Some node) id < bound
  element_below (Union inner) id all outer = term_below inner id all outer
  element_below (Predeclared basic) id all outer = outer
  element_below (Named q) id all outer = outer
  element_below (Param q) id all outer = outer
  element_below (AliasName q) id all outer = outer
  element_below (Pointer ty) id all outer = outer
  element_below (Slice ty) id all outer = outer
  element_below (Array size ty) id all outer = outer
  element_below (Chan dir ty) id all outer = outer
  element_below (MapOf key ty) id all outer = outer
  element_below (FuncOf home sig) id all outer = outer
  element_below (StructOf home inner) id all outer = outer
  element_below (Iface home embedded inner) id all outer = outer
  element_below (Instance base args) id all outer = outer

elements_below : (nodes : List Node) → IsArena nodes → (ids : List ℕ) → AllBelow (length nodes) ids → AllBelow (length nodes) (map (element_in nodes) ids)
elements_below nodes arena [] all = tt
elements_below nodes arena (id ∷ ids) all =
    let own = there_is nodes id all.0 in
    let bound = length nodes in
    let inner : AllBelow bound (children own.0) = weaker (children own.0) (arena.falls id own.0 own.1) all.0 in (
      subst (λ o. element_by o id < bound) (sym own.1) (element_below bound own.0 id inner all.0),
      elements_below nodes arena ids all.1,
    )
  where
    weaker : (xs : List ℕ) → AllBelow id xs → id < length nodes → AllBelow (length nodes) xs
    weaker [] low high = tt
    weaker (x ∷ xs) low high = (omega (arith, low.0), weaker xs low.1 high)

-- ---- lists

module _ (number : ℕ → ℕ) (bound : ℕ) where
  abbrev Fits : List ℕ → Type 0
  Fits ids = AllBelow bound ids

  abbrev FitsMade : List ℕ → Type 0
  FitsMade ids = AllBelow bound (map number ids)

  split_left : (xs ys : List ℕ) → FitsMade (xs ++ ys) → FitsMade xs
  split_left [] ys all = tt
  split_left (x ∷ xs) ys all = (all.0, split_left xs ys all.1)

  split_right : (xs ys : List ℕ) → FitsMade (xs ++ ys) → FitsMade ys
  split_right [] ys all = all
  split_right (x ∷ xs) ys all = split_right xs ys all.1

  params_fit : (xs : List ParamNode) → FitsMade (flat_map param_types (map param_shape xs)) → Fits (flat_map param_types (map param_shape (map (param_made number) xs)))
  params_fit [] all = tt
  params_fit (x ∷ xs) all = (all.0, params_fit xs all.1)

  sig_fits : (x : Sig) → FitsMade (sig_types (sig_shape x)) → Fits (sig_types (sig_shape (sig_made number x)))
  sig_fits x all =
      let ins = flat_map param_types (map param_shape x.params) in
      let outs = flat_map param_types (map param_shape x.results) in
      all_append (λ n. n < bound) _ _ (params_fit x.params (split_left ins outs all)) (params_fit x.results (split_right ins outs all))

  fields_fit : (xs : List Field) → FitsMade (flat_map field_types (map field_shape xs)) → Fits (flat_map field_types (map field_shape (map (field_made number) xs)))
  fields_fit [] all = tt
  fields_fit (x ∷ xs) all = (all.0, fields_fit xs all.1)

  terms_fit : (xs : List Term) → FitsMade (flat_map term_types (map term_shape xs)) → Fits (flat_map term_types (map term_shape (map (term_made number) xs)))
  terms_fit [] all = tt
  terms_fit (x ∷ xs) all = (all.0, terms_fit xs all.1)

  abbrev MethodFits : IMethod → Type 0
  MethodFits x = Fits (method_types (method_shape x))

  each_fits : (xs : List IMethod) → FitsMade (flat_map method_types (map method_shape xs)) → AllByRecursion MethodFits (map (method_made number) xs)
  each_fits [] all = tt
  each_fits (x ∷ xs) all =
      let own = method_types (method_shape x) in
      let others = flat_map method_types (map method_shape xs) in
      (sig_fits x.sig (split_left own others all), each_fits xs (split_right own others all))

  all_fit : (xs : List IMethod) → AllByRecursion MethodFits xs → Fits (flat_map method_types (map method_shape xs))
  all_fit [] all = tt
  all_fit (x ∷ xs) all = all_append (λ n. n < bound) (method_types (method_shape x)) (flat_map method_types (map method_shape xs)) all.0 (all_fit xs all.1)

-- the types of what is made are nodes
pub made_below : (nodes : List Node) → IsArena nodes → (number : ℕ → ℕ) (node own : Node) → MakesNode nodes number node own
    → AllBelow (length nodes) (map number (children node)) → AllBelow (length nodes) (children own)
made_below nodes arena number (Predeclared basic) own is all = subst (λ n. AllBelow (length nodes) (children n)) (sym is) tt
made_below nodes arena number (Named q) own is all = subst (λ n. AllBelow (length nodes) (children n)) (sym is) tt
made_below nodes arena number (Param q) own is all = subst (λ n. AllBelow (length nodes) (children n)) (sym is) tt
made_below nodes arena number (AliasName q) own is all = subst (λ n. AllBelow (length nodes) (children n)) (sym is) tt
made_below nodes arena number (Pointer id) own is all = subst (λ n. AllBelow (length nodes) (children n)) (sym is) all
made_below nodes arena number (Slice id) own is all = subst (λ n. AllBelow (length nodes) (children n)) (sym is) all
made_below nodes arena number (Array size id) own is all = subst (λ n. AllBelow (length nodes) (children n)) (sym is) all
made_below nodes arena number (Chan dir id) own is all = subst (λ n. AllBelow (length nodes) (children n)) (sym is) all
made_below nodes arena number (MapOf key id) own is all = subst (λ n. AllBelow (length nodes) (children n)) (sym is) all
made_below nodes arena number (FuncOf home sig) own is all = subst (λ n. AllBelow (length nodes) (children n)) (sym is) (sig_fits number (length nodes) sig all)
made_below nodes arena number (StructOf home inner) own is all = subst (λ n. AllBelow (length nodes) (children n)) (sym is) (fields_fit number (length nodes) inner all)
made_below nodes arena number (Instance base args) own is all =
    let both = all_append (λ n. n < length nodes) (map number args) (number base ∷ []) (split_left number (length nodes) args (base ∷ []) all) (split_right number (length nodes) args (base ∷ []) all) in
    subst (λ n. AllBelow (length nodes) (children n)) (sym is) both
made_below nodes arena number (Union inner) own is all = subst (λ n. AllBelow (length nodes) (children n)) (sym is) (terms_fit number (length nodes) inner all)
made_below nodes arena number (Iface home embedded inner) own is all =
    let bound = length nodes in
    let methods = flat_map method_types (map method_shape inner) in
    let first = elements_below nodes arena (map number embedded) (split_left number bound embedded methods all) in
    let each = each_fits number bound inner (split_right number bound embedded methods all) in
    let sorted = All-permutation (MethodFits number bound) (map (method_made number) inner) is.sorted is.order.same (All-from_recursion (MethodFits number bound) (map (method_made number) inner) each) in
    let rest = all_fit number bound is.sorted (recursion_from_All (MethodFits number bound) is.sorted sorted) in
    subst (λ n. AllBelow bound (children n)) (sym is.is) (all_append (λ n. n < bound) (map (element_in nodes) (map number embedded)) (flat_map method_types (map method_shape is.sorted)) first rest)

-- the elements of an interface are among its types
pub elements_bound : (number : ℕ → ℕ) (bound : ℕ) (node : Node) (home : List ℕ) (embedded : List ℕ) (methods : List IMethod) → node ≡ Iface home embedded methods
    → AllBelow bound (map number (children node)) → (ids : List ℕ) → ids ≡ embedded → AllBelow bound (map number ids)
elements_bound number bound node home embedded methods is all ids same =
    subst (λ xs. AllBelow bound (map number xs)) (sym same)
    (split_left number bound embedded (flat_map method_types (map method_shape methods)) (subst (λ n. AllBelow bound (map number (children n))) is all))
