-- What an environment over a list of packages keeps.
use Rattle.std.proofs.Common.{◌≡◌, ℕ, ◌<◌, ◌+◌, Bool, true, false, cond, List, [], ◌∷◌, ◌++◌, Some, None, length}
use Rattle.std.proofs.Common.{get_or, drop, refl, ap, sym, ◌∙◌, subst, arith, suc}
use Rattle.std.specs.Prelude.{nat_eq}
use Rattle.std.specs.Cmp.Lexicographic.{pointwise}
use Rattle.std.proofs.Math.Seq.{drop-cons}
use Rattle.std.specs.List.{Contains}
use Rattle.go_values.specs.declared.qualified.QName.{QName}
use Rattle.type_terms.specs.declared.descriptors.Node.{Node}
use Rattle.type_terms.specs.Declarations.{Decl}
use Rattle.type_terms.specs.DeclarationRules.{IsProperDecl}
use Rattle.environments.specs.declared.packages.Package.{Package}
use Rattle.environments.specs.Environments.{Entry, declared}
use Rattle.type_terms.specs.Trees.{Text}
use Rattle.environments.specs.Packages.{PackageStands, package_entry}
use Rattle.environments.specs.PackageLists.{first_at, list_entries, list_names, list_stands}
use Rattle.environments.specs.EntryLaws.{no_entry, package_stays, over_finite, over_proper, over_stays}

pub list_finite : (packages : List Package) (nodes : List Node) (q : QName) (entry : Entry)
    → list_entries packages nodes q ≡ Some entry → Contains (list_names packages) q
list_finite [] nodes q entry is = no_entry _ _ is
list_finite (first ∷ rest) nodes q entry is =
    over_finite first.path first.decls.items (list_names rest) (list_entries rest nodes) nodes q entry
    (list_finite rest nodes q entry) is

pub list_proper : (packages : List Package) (nodes : List Node) (q : QName) (decl : Decl)
    → list_stands nodes packages → list_entries packages nodes q ≡ Some (declared decl) → IsProperDecl decl
list_proper [] nodes q decl stands is = no_entry _ _ is
list_proper (first ∷ rest) nodes q decl stands is =
    over_proper first.path first.decls.items (list_entries rest nodes) nodes q decl stands.0.decls
    (list_proper rest nodes q decl stands.1) is

pub list_stays : (packages : List Package) (nodes more : List Node) → list_stands nodes packages
    → list_stands (nodes ++ more) packages
    × (list_entries packages (nodes ++ more) ≡ list_entries packages nodes)
list_stays [] nodes more stands = (tt, refl)
list_stays (first ∷ rest) nodes more stands =
    let later = list_stays rest nodes more stands.1 in (
      (package_stays nodes more first stands.0, later.0),
      over_stays first.path first.decls.items nodes more stands.0.decls (list_entries rest (nodes ++ more))
          (list_entries rest nodes) later.1,
    )

-- a package of the list that is passed over, and one that is found
pub first_passed : (packages : List Package) (place : ℕ) (path : Text) (here : Package) → place < length packages
    → here ≡ get_or packages place here → pointwise nat_eq path here.path ≡ false
    → first_at (drop (place + 1) packages) path ≡ first_at (drop place packages) path
first_passed packages place path here within is other =
    let more : drop place packages ≡ here ∷ drop (suc place) packages =
    drop-cons packages place here within ∙ ap (λ p. p ∷ drop (suc place) packages) (sym is) in
    let next : suc place ≡ place + 1 = omega arith in
    ap (λ k. first_at (drop k packages) path) (sym next)
    ∙ sym (ap (λ ps. first_at ps path) more
    ∙ ap (λ b. cond b (Some here) (first_at (drop (suc place) packages) path)) other)

pub first_found : (packages : List Package) (place : ℕ) (path : Text) (here : Package) → place < length packages
    → here ≡ get_or packages place here → pointwise nat_eq path here.path ≡ true
    → first_at (drop place packages) path ≡ Some here
first_found packages place path here within is same =
    let more : drop place packages ≡ here ∷ drop (suc place) packages =
    drop-cons packages place here within ∙ ap (λ p. p ∷ drop (suc place) packages) (sym is) in
    ap (λ ps. first_at ps path) more
    ∙ ap (λ b. cond b (Some here) (first_at (drop (suc place) packages) path)) same

-- What a list has for a name is what the first package with the path has.
pub entries_of_first : (packages : List Package) (nodes : List Node) (q : QName) (found : Package)
    → first_at packages q.path ≡ Some found
    → list_entries packages nodes q ≡ package_entry nodes found.decls.items q.name
entries_of_first [] nodes q found is = (cc)
entries_of_first (first ∷ rest) nodes q found is = by (pointwise nat_eq q.path first.path) is
    (entries_of_first rest nodes q found)
  where
    by : (b : Bool) → cond b (Some first) (first_at rest q.path) ≡ Some found
        → (first_at rest q.path ≡ Some found
        → list_entries rest nodes q ≡ package_entry nodes found.decls.items q.name)
        → cond b (package_entry nodes first.decls.items q.name) (list_entries rest nodes q)
        ≡ package_entry nodes found.decls.items q.name
    by true here later =
        let same : first ≡ found = (cc) in
        ap (λ (p : Package). package_entry nodes p.decls.items q.name) same
    by false there later = later there

pub no_entries : (packages : List Package) (nodes : List Node) (q : QName) → first_at packages q.path ≡ None
    → list_entries packages nodes q ≡ None
no_entries [] nodes q none = refl
no_entries (first ∷ rest) nodes q none = by (pointwise nat_eq q.path first.path) none (no_entries rest nodes q)
  where
    by : (b : Bool) → cond b (Some first) (first_at rest q.path) ≡ None
        → (first_at rest q.path ≡ None → list_entries rest nodes q ≡ None)
        → cond b (package_entry nodes first.decls.items q.name) (list_entries rest nodes q) ≡ None
    by true here later = (cc)
    by false there later = later there

pub first_stands : (nodes : List Node) (packages : List Package) (path : Text) (found : Package)
    → list_stands nodes packages → first_at packages path ≡ Some found → PackageStands nodes found
first_stands nodes [] path found stands is = (cc)
first_stands nodes (first ∷ rest) path found stands is = by (pointwise nat_eq path first.path) is
    (first_stands nodes rest path found stands.1)
  where
    by : (b : Bool) → cond b (Some first) (first_at rest path) ≡ Some found
        → (first_at rest path ≡ Some found → PackageStands nodes found) → PackageStands nodes found
    by true here later =
        let same : first ≡ found = (cc) in
        subst (PackageStands nodes) same stands.0
    by false there later = later there
