-- What holds of the entries of environments, and of a package's.
use Rattle.std.proofs.Common.{◌≡◌, ◌<◌, Bool, true, false, cond, List, [], ◌∷◌, ◌++◌, length, Option, Some, None}
use Rattle.std.proofs.Common.{refl, ap, sym, ◌∙◌, subst, arith, length-append}
use Rattle.std.specs.Prelude.{nat_eq, option_map}
use Rattle.std.specs.List.{Contains}
use Rattle.std.specs.Map.{lookup}
use Rattle.std.specs.Cmp.Lexicographic.{pointwise}
use Rattle.std.proofs.lemmas.List.Elements.{Contains-append_left, Contains-append_right, Contains-get_or}
use Rattle.go_values.specs.Exact.{exact_bytes}
use Rattle.go_values.specs.declared.qualified.QName.{QName}
use Rattle.type_terms.specs.declared.descriptors.Node.{Node}
use Rattle.type_terms.specs.declared.declarations.DeclNode.{DeclNode}
use Rattle.environments.specs.declared.packages.Package.{Package}
use Rattle.type_terms.specs.Trees.{Text}
use Rattle.type_terms.specs.Arenas.{Contents, Extends}
use Rattle.type_terms.specs.Declarations.{Decl, decl_nodes, decl_of}
use Rattle.type_terms.specs.DeclarationRules.{IsProperDecl}
use Rattle.type_terms.specs.DeclarationLaws.{decl_of-stays}
use Rattle.environments.specs.Environments.{Entry, declared, entry_types}
use Rattle.type_terms.specs.Additions.{AddsOnly, Outgrows}
use Rattle.environments.specs.Packages.{Named, package_decl, package_entry, package_names, HoldsParameters, DeclsStand}
use Rattle.environments.specs.Packages.{PackageStands, over_entries}
use Rattle.type_terms.specs.Denoted.{all_weaker}

pub no_entry : (P : Type 0) (entry : Entry) → None ≡ Some entry → P
no_entry P entry e = cc

-- The package stands as nodes are added, and means the same.
module _ (nodes more : List Node) (path : Text) (decls : List Named) (stands : DeclsStand nodes path decls) where
  entry_stays : (name : Text) (found : Option DeclNode) → package_decl decls name ≡ found
      → option_map (λ decl. declared (decl_of (nodes ++ more) decl)) found
      ≡ option_map (λ decl. declared (decl_of nodes decl)) found
  entry_stays name None e = refl
  entry_stays name (Some decl) e = ap (λ d. Some (declared d))
      (decl_of-stays nodes more decl (stands.below name decl e))

  pub package_entry-stays : (name : Text) → package_entry (nodes ++ more) decls name ≡ package_entry nodes decls name
  package_entry-stays name = entry_stays name (package_decl decls name) refl

  pub decls_stay : DeclsStand (nodes ++ more) path decls
  decls_stay = record {
    rises = stands.rises;
    below = λ name decl e.
        all_weaker (λ n. n < length nodes) (λ n. n < length (nodes ++ more))
        (λ n h. omega (arith, length-append nodes more)) (decl_nodes decl) (stands.below name decl e);
    proper = λ name decl e.
        subst IsProperDecl (sym (decl_of-stays nodes more decl (stands.below name decl e))) (stands.proper name decl e);
    parameters = λ name decl e.
        subst (HoldsParameters path decls name) (sym (decl_of-stays nodes more decl (stands.below name decl e)))
        (stands.parameters name decl e);
  }

pub package_stays : (nodes more : List Node) (whole : Package) → PackageStands nodes whole
    → PackageStands (nodes ++ more) whole
package_stays nodes more whole stands = record {
  imports = stands.imports;
  files = stands.files;
  decls = decls_stay nodes more whole.path whole.decls.items stands.decls;
}

-- what a package gives is a declaration of its own
pub package_entry-decl : (nodes : List Node) (decls : List Named) (name : Text) (entry : Entry)
    → package_entry nodes decls name ≡ Some entry → (decl : DeclNode) × (package_decl decls name ≡ Some decl)
    × (entry ≡ declared (decl_of nodes decl))
package_entry-decl nodes decls name entry = by (package_decl decls name) refl
  where
    by : (found : Option DeclNode) → package_decl decls name ≡ found
        → option_map (λ decl. declared (decl_of nodes decl)) found ≡ Some entry → (decl : DeclNode)
        × (package_decl decls name ≡ Some decl) × (entry ≡ declared (decl_of nodes decl))
    by None e is = no_entry _ entry is
    by (Some decl) e is = let same : declared (decl_of nodes decl) ≡ entry = (cc) in (decl, e, sym same)

pub package_entry-proper : (nodes : List Node) (path : Text) (decls : List Named) (name : Text) (decl : Decl)
    → DeclsStand nodes path decls → package_entry nodes decls name ≡ Some (declared decl) → IsProperDecl decl
package_entry-proper nodes path decls name decl stands is =
    let found = package_entry-decl nodes decls name (declared decl) is in
    let given : declared decl ≡ declared (decl_of nodes found.0) = found.2 in
    let same : decl ≡ decl_of nodes found.0 = (cc) in
    subst IsProperDecl (sym same) (stands.proper name found.0 found.1)

contains_there : {X : Type 0} (x : X) (xs : List X) (y : X) → Contains xs y → Contains (x ∷ xs) y
contains_there x xs y c = Contains-append_right (x ∷ []) xs y c

contains_here : {X : Type 0} (x : X) (xs : List X) → Contains (x ∷ xs) x
contains_here x xs = Contains-get_or (x ∷ xs) 0 x (omega arith)

-- a name that a package declares is one of its names
pub package_names-has : (path : Text) (decls : List Named) (name : Text) (decl : DeclNode)
    → package_decl decls name ≡ Some decl → Contains (package_names path decls) (record { path = path; name = name })
package_names-has path [] name decl e = (cc)
package_names-has path (own ∷ rest) name decl e = by (pointwise nat_eq name own.0) refl e
    (package_names-has path rest name decl)
  where
    by : (b : Bool) → pointwise nat_eq name own.0 ≡ b
        → cond b (Some own.1) (lookup (pointwise nat_eq name) rest) ≡ Some decl
        → (package_decl rest name ≡ Some decl
        → Contains (package_names path rest) (record { path = path; name = name }))
        → Contains (package_names path (own ∷ rest)) (record { path = path; name = name })
    by true same e later =
        subst (λ n. Contains (package_names path (own ∷ rest)) (record { path = path; name = n }))
        (sym (exact_bytes name own.0 same))
        (contains_here (record { path = path; name = own.0 }) (package_names path rest))
    by false same e later = contains_there (record { path = path; name = own.0 }) (package_names path rest)
        (record { path = path; name = name }) (later e)

-- The same of a package over other entries.
pub over_finite : (path : Text) (decls : List Named) (names : List QName) (base : QName
    → Option Entry) (nodes : List Node) (q : QName) (entry : Entry) → (base q ≡ Some entry → Contains names q)
    → over_entries path decls nodes base q ≡ Some entry → Contains (package_names path decls ++ names) q
over_finite path decls names base nodes q entry below = by (pointwise nat_eq q.path path) refl
  where
    by : (b : Bool) → pointwise nat_eq q.path path ≡ b
        → cond b (package_entry nodes decls q.name) (base q) ≡ Some entry
        → Contains (package_names path decls ++ names) q
    by true same is =
        let found = package_entry-decl nodes decls q.name entry is in
        let own = package_names-has path decls q.name found.0 found.1 in
        let name : path ≡ q.path = sym (exact_bytes q.path path same) in
        Contains-append_left (package_names path decls) names q
        (subst (λ p. Contains (package_names path decls) (record { path = p; name = q.name })) name own)
    by false same is = Contains-append_right (package_names path decls) names q (below is)

pub over_proper : (path : Text) (decls : List Named) (base : QName
    → Option Entry) (nodes : List Node) (q : QName) (decl : Decl) → DeclsStand nodes path decls
    → (base q ≡ Some (declared decl) → IsProperDecl decl)
    → over_entries path decls nodes base q ≡ Some (declared decl) → IsProperDecl decl
over_proper path decls base nodes q decl stands below = by (pointwise nat_eq q.path path)
  where
    by : (b : Bool) → cond b (package_entry nodes decls q.name) (base q) ≡ Some (declared decl) → IsProperDecl decl
    by true is = package_entry-proper nodes path decls q.name decl stands is
    by false is = below is

pub over_stays : (path : Text) (decls : List Named) (nodes more : List Node) → DeclsStand nodes path decls
    → (late early : QName → Option Entry) → late ≡ early
    → over_entries path decls (nodes ++ more) late ≡ over_entries path decls nodes early
over_stays path decls nodes more stands late early e =
    λ i q. cond (pointwise nat_eq q.path path) (package_entry-stays nodes more path decls stands q.name i) (e i q)

-- The same from one state of an arena to a later one.
pub package_grown : (whole : Package) (old new : Contents) → Extends old new → PackageStands old.nodes whole
    → PackageStands new.nodes whole
package_grown whole old new grown stands = subst (λ nodes. PackageStands nodes whole) (sym grown.nodes)
    (package_stays old.nodes grown.more whole stands)

pub over_grown : (path : Text) (decls : List Named) (old new : Contents) → Extends old new
    → DeclsStand old.nodes path decls → (late early : QName → Option Entry) → late ≡ early
    → over_entries path decls new.nodes late ≡ over_entries path decls old.nodes early
over_grown path decls old new grown stands late early e =
    ap (λ nodes. over_entries path decls nodes late) grown.nodes ∙ over_stays path decls old.nodes grown.more stands
    late early e

pub over_adds : (path : Text) (decls : List Named) (nodes : List Node) (base : QName
    → Option Entry) (q : QName) (old new : Contents) → pointwise nat_eq q.path path ≡ false
    → AddsOnly (entry_types (base q)) old new → AddsOnly (entry_types (over_entries path decls nodes base q)) old new
over_adds path decls nodes base q old new other adds =
    let entry : base q
    ≡ over_entries path decls nodes base q = ap (λ b. cond b (package_entry nodes decls q.name) (base q))
    (sym other) in
    subst (λ e. AddsOnly (entry_types e) old new) entry adds

pub over_outgrown : (path : Text) (decls : List Named) (nodes : List Node) (base : QName
    → Option Entry) (q : QName) (arena : Contents) → pointwise nat_eq q.path path ≡ false
    → Outgrows arena (entry_types (base q)) → Outgrows arena (entry_types (over_entries path decls nodes base q))
over_outgrown path decls nodes base q arena other outgrown =
    let entry : base q
    ≡ over_entries path decls nodes base q = ap (λ b. cond b (package_entry nodes decls q.name) (base q))
    (sym other) in
    subst (λ e. Outgrows arena (entry_types e)) entry outgrown

-- An environment may still be used, and means the same: for its law `stays`.
pub extends_env : (stands : List Node → Type 0) (entries : List Node → QName → Option Entry)
    → ((nodes more : List Node) → stands nodes → stands (nodes ++ more) × (entries (nodes ++ more) ≡ entries nodes))
    → (old new : Contents) → Extends old new → stands old.nodes → stands new.nodes
    × (entries new.nodes ≡ entries old.nodes)
extends_env stands entries stays old new grown here =
    let later = stays old.nodes grown.more here in
    (subst stands (sym grown.nodes) later.0, ap entries grown.nodes ∙ later.1)
