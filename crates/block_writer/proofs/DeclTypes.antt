-- The numbers of types among the items of a declaration are its nodes.
use Rattle.std.proofs.Common.{◌≡◌, ℕ, zero, suc, Bool, true, false, List, [], ◌∷◌, ◌++◌, length, map, None, refl, sym, ap, ◌∙◌, append-nil}
use Rattle.std.proofs.lemmas.List.Concat.{flat_map-append}
use Rattle.go_values.specs.declared.positions.Pos.{Pos}
use Rattle.go_values.specs.declared.constants.Const.{Const}
use Rattle.go_values.specs.declared.constants.Const.TheVariants.{Bool as truth, Int as whole, Str as chars}
use Rattle.type_terms.specs.declared.declarations.DeclNode.{DeclNode}
use Rattle.type_terms.specs.declared.declarations.DeclNode.TheVariants.{Var, Func, Constant, Defined, Alias, Parameter}
use Rattle.type_terms.specs.declared.declarations.Method.{Method}
use Rattle.type_terms.specs.Declarations.{decl_form, decl_nodes}
use Rattle.type_terms.specs.Trees.{Text, Tree, named, array, interface, no_types, no_methods}
use Rattle.decl_spelling.specs.Sections.{Basics}
use Rattle.decl_spelling.specs.Constants.{Kind, spelled, floating, none, flag, offset, number}
use Rattle.decl_spelling.proofs.Forms.{form_types_map}
use Rattle.file_layout.specs.Items.{constant_kind}
use Rattle.file_layout.proofs.ItemTypes.{item_types, items_types, HasMethodsOf, decl_types}
use Rattle.block_writer.specs.declared.declarations.Told.{Told}
use Rattle.block_writer.specs.declared.items.Item.{Item as Put}
use Rattle.block_writer.specs.Adding.{meant, receivers_over}
use Rattle.block_writer.specs.Declaring.{decl_over, IsTold, HidesNone, last_of, last_items, AddsDecl}
use Rattle.block_writer.proofs.Types.{ids, meant_types, sized}

-- ---- types from which their numbers are got back

abbrev stars : ℕ → Text
stars zero = []
stars (suc n) = 0 ∷ stars n

star_count : (n : ℕ) → length (stars n) ≡ n
star_count zero = refl
star_count (suc n) = ap (λ (m : ℕ). suc m) (star_count n)

abbrev called : ℕ → Tree
called n = named (record { path = stars n; name = [] })

abbrev faced : ℕ → Tree
faced n = interface (stars n) no_types no_methods

abbrev back : Tree → ℕ
back (named q) = length q.path
back (interface home embedded own) = length home
back (array n type) = n
back _ = 0

got_back : (type : ℕ → Tree) → ((n : ℕ) → back (type n) ≡ n) → (xs : List ℕ) → map back (map type xs) ≡ xs
got_back type same [] = refl
got_back type same (x ∷ xs) = ap (λ (n : ℕ). n ∷ map back (map type xs)) (same x) ∙ ap (λ (rest : List ℕ). x ∷ rest) (got_back type same xs)

-- ---- no type stands last

none_in : (kind : Kind) (value : Const) → items_types (last_items kind value) ≡ []
none_in (spelled flag) (truth x) = refl
none_in (spelled flag) (whole x) = refl
none_in (spelled flag) (chars x) = refl
none_in (spelled offset) (truth x) = refl
none_in (spelled offset) (whole x) = refl
none_in (spelled offset) (chars x) = refl
none_in (spelled (number signed max)) (truth x) = refl
none_in (spelled (number signed max)) (whole x) = refl
none_in (spelled (number signed max)) (chars x) = refl
none_in floating value = refl
none_in none value = refl

none_last : (told : Told) (decl : DeclNode) → items_types (last_of told.basic decl) ≡ []
none_last told (Var pos ty) = refl
none_last told (Func pos tparams sig) = refl
none_last told (Constant pos ty value) = none_in (constant_kind told.basic) value
none_last told (Defined pos tparams underlying methods) = refl
none_last told (Alias pos tparams ty) = refl
none_last told (Parameter pos implicit constraint) = refl

-- ----

module _ (told : Told) (decl : DeclNode) (xs : List Put) (adds : AddsDecl told decl [] xs) where
  by_types : (type : ℕ → Tree) (basics : Basics) → ((n : ℕ) → back (type n) ≡ n) → IsTold basics type told decl → HasMethodsOf (decl_over type decl) → ids xs ≡ decl_nodes decl
  by_types type basics same so has =
      let items = map (meant type) xs in
      let last = last_of told.basic decl in
      let front : items_types (items ++ last) ≡ items_types items =
      flat_map-append item_types items last ∙ ap (λ (rest : List Tree). items_types items ++ rest) (none_last told decl) ∙ append-nil (items_types items) in
      let all : items_types items ≡ map type (decl_nodes decl) =
      sym front ∙ ap items_types (adds type basics so) ∙ decl_types basics (decl_over type decl) has ∙ form_types_map (λ (x : Pos). x) (λ (x : Text). x) type (decl_form decl) in
      sym (got_back type same (ids xs)) ∙ ap (map back) (sym (meant_types type xs) ∙ all) ∙ got_back type same (decl_nodes decl)

no_basics : Basics
no_basics path name = None

no_receivers : (type : ℕ → Tree) (methods : List Method) → methods ≡ [] → receivers_over type methods ≡ []
no_receivers type methods is = ap (receivers_over type) is

pub decl_ids : (told : Told) (decl : DeclNode) (xs : List Put) → HidesNone told decl → AddsDecl told decl [] xs → ids xs ≡ decl_nodes decl
decl_ids told (Var pos ty) xs hides adds = by_types told (Var pos ty) xs adds sized no_basics (λ n. refl) tt tt
decl_ids told (Func pos tparams sig) xs hides adds = by_types told (Func pos tparams sig) xs adds sized no_basics (λ n. refl) tt tt
decl_ids told (Constant pos ty value) xs hides adds = by_types told (Constant pos ty value) xs adds called (λ path name. told.basic) star_count refl tt
decl_ids told (Defined pos tparams underlying methods) xs hides adds = by told.has_methods refl
  where
    by : (has : Bool) → told.has_methods ≡ has → ids xs ≡ decl_nodes (Defined pos tparams underlying methods)
    by true e = by_types told (Defined pos tparams underlying methods) xs adds sized no_basics (λ n. refl) e (λ other. absurd cc)
    by false e = by_types told (Defined pos tparams underlying methods) xs adds faced no_basics star_count e (λ same. no_receivers faced methods (hides e))
decl_ids told (Alias pos tparams ty) xs hides adds = by_types told (Alias pos tparams ty) xs adds sized no_basics (λ n. refl) tt tt
decl_ids told (Parameter pos implicit constraint) xs hides adds = by_types told (Parameter pos implicit constraint) xs adds sized no_basics (λ n. refl) tt tt
