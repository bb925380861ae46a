-- The declaration with a name, by the place where the names have it.
use Rattle.std.proofs.Common.{◌≡◌, ℕ, Bool, true, false, cond, List, [], ◌∷◌, Some, None, refl, ap, sym, ◌∙◌, arith, suc, zero, map}
use Rattle.std.specs.Prelude.{nat_eq, slice_get}
use Rattle.std.specs.Cmp.Lexicographic.{pointwise}
use Rattle.std.specs.Map.{lookup}
use Rattle.std.proofs.lemmas.Cmp.{nat_list_eq_equiv}
use Rattle.go_values.specs.Exact.{exact_bytes}
use Rattle.type_terms.specs.Trees.{Text}
use Rattle.environments.specs.Packages.{Named, name_of, package_decl}

differs : (name own : Text) → (own ≡ name → ⊥) → pointwise nat_eq name own ≡ false
differs name own apart = by (pointwise nat_eq name own) refl
  where
    by : (b : Bool) → pointwise nat_eq name own ≡ b → b ≡ false
    by true e = absurd (apart (sym (exact_bytes name own e)))
    by false e = refl

-- where the first has another name, it is looked for among the others
passed : (name : Text) (first : Named) (rest : List Named) → (first.0 ≡ name → ⊥)
    → package_decl (first ∷ rest) name ≡ package_decl rest name
passed name first rest apart =
    ap (λ b. cond b (Some first.1) (lookup (pointwise nat_eq name) rest)) (differs name first.0 apart)

pub none_named : (name : Text) (decls : List Named) → ((i : ℕ) → slice_get (map name_of decls) i ≡ Some name → ⊥)
    → package_decl decls name ≡ None
none_named name [] none = refl
none_named name (first ∷ rest) none =
    passed name first rest (λ same. none 0 (ap (λ t. Some t) same)) ∙ none_named name rest (λ i. none (suc i))

pub one_named : (name : Text) (decls : List Named) (place : ℕ) (named : Named)
    → ((i j : ℕ) → slice_get (map name_of decls) i ≡ Some name → slice_get (map name_of decls) j ≡ Some name → i ≡ j)
    → slice_get decls place ≡ Some named → slice_get (map name_of decls) place ≡ Some name
    → package_decl decls name ≡ Some named.1
one_named name [] place named once there has = (cc)
one_named name (first ∷ rest) zero named once there has =
    let same : first ≡ named = (cc) in
    let own : first.0 ≡ name = (cc) in
    let found : pointwise nat_eq name first.0 ≡ true = ap (λ t. pointwise nat_eq name t) own ∙ nat_list_eq_equiv.refl name in
    ap (λ b. cond b (Some first.1) (lookup (pointwise nat_eq name) rest)) found ∙ ap (λ n. Some n.1) same
one_named name (first ∷ rest) (suc place) named once there has =
    passed name first rest (λ same. absurd (let no = once 0 (suc place) (ap (λ t. Some t) same) has in omega arith))
    ∙ one_named name rest place named (λ i j at_i at_j. let both = once (suc i) (suc j) at_i at_j in omega arith) there has
