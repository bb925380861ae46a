use Rattle.std.proofs.Common.{◌≡◌, ℕ, ◌<◌, Some, ap, sym, refl, ◌∙◌, arith, subst, map, Option, length}
use Rattle.std.specs.List.Sorted.{IsSearchInRange, IsBinarySearchResult}
use Rattle.std.specs.Prelude.{IfSome, IfNone, slice_get, option_map}
use Rattle.std.proofs.lemmas.Fn.{always_returns_same}
use Rattle.std.proofs.lemmas.Option.{slice_get_read, slice_get_within}
use Rattle.std.proofs.lemmas.List.{length-map}
use Rattle.wire_bytes.proofs.RiseLemmas.{rise_once, beside, found_there, none_there}
use Rattle.environments.specs.Packages.{name_of}
use Rattle.environments.proofs.PackageLemmas.{none_named, one_named}
use Rattle.environments.proofs.packages.Package.decl.Goals as goal

pub returns-in_err-place : goal.returns-in_err-place
returns-in_err-place c =
    let decls = c.args.self.now.decls.items in
    let name = c.args.name.now in
    let searched = c.binary_search_by.result in
    let order = beside name_of decls c.requires.sorted name in
    let bound : IsSearchInRange searched (length decls) = rw (← c.deref.ensures.value) c.binary_search_by.ensures.bound in
    let position : IsBinarySearchResult order decls searched =
    rw (← c.deref.ensures.value) (c.binary_search_by.ensures.position order (always_returns_same _ _ _ (λ a r f k. (k.met.1, λ j. record { 0 = k.met.0 j })))) in
    let none = none_there name_of decls c.requires.sorted name searched bound position in
    ap (option_map (λ decl. decl.now)) c.from_residual.ensures
    ∙ sym (none_named name decls (subst (λ (o : Option ℕ). IfNone o ((i : ℕ) → slice_get (map name_of decls) i ≡ Some name → ⊥)) (sym c.in_err-place.ensures.value) none))

pub returns : goal.returns
returns c =
    let decls = c.args.self.now.decls.items in
    let name = c.args.name.now in
    let place = c.in_ok-place.place in
    let searched = c.binary_search_by.result in
    let order = beside name_of decls c.requires.sorted name in
    let bound : IsSearchInRange searched (length decls) = rw (← c.deref.ensures.value) c.binary_search_by.ensures.bound in
    let position : IsBinarySearchResult order decls searched =
    rw (← c.deref.ensures.value) (c.binary_search_by.ensures.position order (always_returns_same _ _ _ (λ a r f k. (k.met.1, λ j. record { 0 = k.met.0 j })))) in
    let found = found_there name_of decls c.requires.sorted name searched bound position in
    let has : slice_get (map name_of decls) place ≡ Some name = subst (λ (o : Option ℕ). IfSome o (λ i. slice_get (map name_of decls) i ≡ Some name)) (sym c.in_ok-place.ensures.value) found in
    let within : place < length decls = omega (arith, length-map decls name_of, slice_get_within (map name_of decls) place name has) in
    sym (one_named name decls place c.index.result.now (λ i j. rise_once (map name_of decls) i j name c.requires.sorted) (slice_get_read decls (length decls) place c.index.result.now refl within c.index.ensures) has)
