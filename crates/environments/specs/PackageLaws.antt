-- What a package means, and what stays as a declaration comes to it.
use Rattle.std.proofs.Common.{◌≡◌, ◌⊎◌, inl, inr, Bool, true, false, cond, List, [], ◌∷◌, ◌++◌, length, Some, None}
use Rattle.std.proofs.Common.{refl, ap, sym, ◌∙◌, subst}
use Rattle.std.specs.Prelude.{nat_eq, option_map}
use Rattle.std.specs.Map.{lookup}
use Rattle.std.specs.Cmp.Lexicographic.{pointwise}
use Rattle.go_values.specs.Exact.{exact_bytes}
use Rattle.type_terms.specs.declared.descriptors.Node.{Node}
use Rattle.type_terms.specs.declared.declarations.DeclNode.{DeclNode}
use Rattle.type_terms.specs.Trees.{Text, Tree}
use Rattle.type_terms.specs.Arenas.{AllBelow}
use Rattle.type_terms.specs.Declarations.{Decl, var_of, function_of, constant_of, defined_of, renamed_of}
use Rattle.type_terms.specs.Declarations.{type_parameter_of, decl_nodes, decl_of}
use Rattle.type_terms.specs.DeclarationRules.{IsProperDecl}
use Rattle.environments.specs.Packages.{IsRising, Named, name_of, package_decl, dotted, HoldsList, HoldsParameters}
use Rattle.environments.specs.Packages.{DeclsStand}
use Rattle.environments.specs.Packages.{meant_decls}

-- what a package that is meant has for a name is what its node means
pub meant_decl : (nodes : List Node) (decls : List Named) (name : Text)
    → lookup (pointwise nat_eq name) (meant_decls nodes decls) ≡ option_map (decl_of nodes) (package_decl decls name)
meant_decl nodes [] name = refl
meant_decl nodes (first ∷ rest) name = by (pointwise nat_eq name first.0) (meant_decl nodes rest name)
  where
    by : (b : Bool) → lookup (pointwise nat_eq name) (meant_decls nodes rest)
        ≡ option_map (decl_of nodes) (package_decl rest name)
        → cond b (Some (decl_of nodes first.1)) (lookup (pointwise nat_eq name) (meant_decls nodes rest))
        ≡ option_map (decl_of nodes) (cond b (Some first.1) (package_decl rest name))
    by true later = refl
    by false later = later

-- A new declaration is put among the others.
module _ (front back : List Named) (name : Text) (decl : DeclNode) where
  abbrev old : List Named
  old = front ++ back

  abbrev new : List Named
  new = front ++ (name, decl) ∷ back

  -- what the longer list has is the new one, or was there
  pub among : (asked : Text) (found : DeclNode) → package_decl new asked ≡ Some found
      → (package_decl old asked ≡ Some found) ⊎ ((asked ≡ name) × (found ≡ decl))
  among asked found = in_front front
    where
      here : (b : Bool) → pointwise nat_eq asked name ≡ b
          → cond b (Some decl) (package_decl back asked) ≡ Some found
          → (package_decl back asked ≡ Some found) ⊎ ((asked ≡ name) × (found ≡ decl))
      here true same is = let found_is : found ≡ decl = (cc) in inr (exact_bytes asked name same, found_is)
      here false other is = inl is

      passed : (first : Named) (xs : List Named) (b : Bool)
          → cond b (Some first.1) (package_decl (xs ++ (name, decl) ∷ back) asked) ≡ Some found
          → (package_decl (xs ++ (name, decl) ∷ back) asked ≡ Some found
          → (package_decl (xs ++ back) asked ≡ Some found) ⊎ ((asked ≡ name) × (found ≡ decl)))
          → (cond b (Some first.1) (package_decl (xs ++ back) asked) ≡ Some found)
          ⊎ ((asked ≡ name) × (found ≡ decl))
      passed first xs true is later = inl is
      passed first xs false is later = later is

      in_front : (xs : List Named) → package_decl (xs ++ (name, decl) ∷ back) asked ≡ Some found
          → (package_decl (xs ++ back) asked ≡ Some found) ⊎ ((asked ≡ name) × (found ≡ decl))
      in_front [] is = here (pointwise nat_eq asked name) refl is
      in_front (first ∷ xs) is = passed first xs (pointwise nat_eq asked first.0) is (in_front xs)

  module _ (undeclared : package_decl old name ≡ None) where
    -- what was there is there
    pub kept : (asked : Text) (found : DeclNode) → package_decl old asked ≡ Some found
        → package_decl new asked ≡ Some found
    kept asked found is = in_front front is
      where
        none_is_some : None ≡ Some found → ⊥
        none_is_some e = cc

        here : (b : Bool) → pointwise nat_eq asked name ≡ b → package_decl back asked ≡ Some found
            → cond b (Some decl) (package_decl back asked) ≡ Some found
        here true same there = absurd (none_is_some (sym undeclared
            ∙ ap (package_decl old) (sym (exact_bytes asked name same)) ∙ is))
        here false other there = there

        passed : (first : Named) (xs : List Named) (b : Bool)
            → cond b (Some first.1) (package_decl (xs ++ back) asked) ≡ Some found
            → (package_decl (xs ++ back) asked ≡ Some found
            → package_decl (xs ++ (name, decl) ∷ back) asked ≡ Some found)
            → cond b (Some first.1) (package_decl (xs ++ (name, decl) ∷ back) asked) ≡ Some found
        passed first xs true there later = there
        passed first xs false there later = later there

        in_front : (xs : List Named) → package_decl (xs ++ back) asked ≡ Some found
            → package_decl (xs ++ (name, decl) ∷ back) asked ≡ Some found
        in_front [] there = here (pointwise nat_eq asked name) refl there
        in_front (first ∷ xs) there = passed first xs (pointwise nat_eq asked first.0) there (in_front xs)

    holds_list : (path owner : Text) (types : List Tree) → HoldsList path old owner types
        → HoldsList path new owner types
    holds_list path owner types holds place type is =
        let held = holds place type is in
        (held.0, held.1, held.2, (held.3.0, held.3.1, held.3.2, kept (dotted owner held.0) _ held.3.3))

    holds_parameters : (path asked : Text) (of : Decl) → HoldsParameters path old asked of
        → HoldsParameters path new asked of
    holds_parameters path asked (var_of pos type) holds = holds
    holds_parameters path asked (constant_of pos type value) holds = holds
    holds_parameters path asked (type_parameter_of pos implicit constraint) holds = holds
    holds_parameters path asked (function_of pos tparams sig) holds = holds_list path asked tparams holds
    holds_parameters path asked (renamed_of pos tparams type) holds = holds_list path asked tparams holds
    holds_parameters path asked (defined_of pos tparams underlying methods) holds = (
      holds_list path asked tparams holds.0,
      λ place default within. holds_list path _ _ (holds.1 place default within),
    )

    -- A package stands with one more declaration, which keeps the rules.
    pub one_more_stands : (nodes : List Node) (path : Text) → DeclsStand nodes path old → IsRising name_of new
        → AllBelow (length nodes) (decl_nodes decl) → IsProperDecl (decl_of nodes decl)
        → HoldsParameters path new name (decl_of nodes decl) → DeclsStand nodes path new
    one_more_stands nodes path stands rises below proper parameters = record {
      rises = rises;
      below = λ asked found is. by_below found (among asked found is) (stands.below asked found);
      proper = λ asked found is. by_proper found (among asked found is) (stands.proper asked found);
      parameters = λ asked found is. by_parameters asked found (among asked found is) (stands.parameters asked found);
    }
      where
        by_below : {asked : Text} (found : DeclNode)
            → (package_decl old asked ≡ Some found) ⊎ ((asked ≡ name) × (found ≡ decl))
            → (package_decl old asked ≡ Some found → AllBelow (length nodes) (decl_nodes found))
            → AllBelow (length nodes) (decl_nodes found)
        by_below found (inl there) each = each there
        by_below found (inr here) each = subst (λ d. AllBelow (length nodes) (decl_nodes d)) (sym here.1) below

        by_proper : {asked : Text} (found : DeclNode)
            → (package_decl old asked ≡ Some found) ⊎ ((asked ≡ name) × (found ≡ decl))
            → (package_decl old asked ≡ Some found → IsProperDecl (decl_of nodes found))
            → IsProperDecl (decl_of nodes found)
        by_proper found (inl there) each = each there
        by_proper found (inr here) each = subst (λ d. IsProperDecl (decl_of nodes d)) (sym here.1) proper

        by_parameters : (asked : Text) (found : DeclNode)
            → (package_decl old asked ≡ Some found) ⊎ ((asked ≡ name) × (found ≡ decl))
            → (package_decl old asked ≡ Some found → HoldsParameters path old asked (decl_of nodes found))
            → HoldsParameters path new asked (decl_of nodes found)
        by_parameters asked found (inl there) each = holds_parameters path asked (decl_of nodes found) (each there)
        by_parameters asked found (inr here) each =
            subst (λ a. HoldsParameters path new a (decl_of nodes found)) (sym here.0)
            (subst (λ d. HoldsParameters path new name (decl_of nodes d)) (sym here.1) parameters)
