-- Going through references for the first that dangles.
use Rattle.std.proofs.Common.{◌≡◌, ◌≢◌, ◌⊎◌, ◌↔◌, inl, inr, ℕ, zero, suc, ◌+◌, List, [], ◌∷◌, ◌++◌, length, take, drop, Bool, true, false, not, Option, Some, None, slice_get, refl, sym, ap, ◌∙◌, subst, arith}
use Rattle.std.specs.Prelude.{IsTrue, IsErrOf, Result, Ok, Err}
use Rattle.dangling_references.specs.declared.fault.AskFault.{AskFault}
use Rattle.dangling_references.specs.declared.fault.AskFault.TheVariants.{OutOfMemory}
use Rattle.std.specs.List.{Contains}
use Rattle.std.proofs.lemmas.List.Elements.{Contains-append_left, Contains-append_right, Contains-append_cases, Contains-get_or}
use Rattle.type_terms.specs.Trees.{Tree}
use Rattle.type_terms.specs.Arenas.{Contents, Extends}
use Rattle.go_values.specs.declared.qualified.QName.{QName}
use Rattle.type_terms.specs.Additions.{AddsOnly, Outgrows}
use Rattle.type_terms.specs.Declarations.{Decl}
use Rattle.environments.specs.Environments.{Entry, declared, AsksOnly, entry_types}
use Rattle.environments.specs.Kept.{World, Kept, OpensBehind}
use Rattle.environments.specs.KeptLaws.{kept_again, kept_more, kept_by_declare, outgrown_before, outgrown_by_declare}
use Rattle.environments.specs.OpenedTypes.{OutgrowsAmong}
use Rattle.environments.specs.Roles.{role_of}
use Rattle.environments.specs.References.{IsFirstMentions, all_seen, again, first}
use Rattle.environments.specs.declared.mentions.Role.{Role}
use Rattle.environments.specs.declared.mentions.Reference.{Reference}
use Rattle.dangling_references.specs.Dangling.{Entries, DanglesAs, Dangles, NoneDangles, IsFirstDangling, IsNamed, OpensNamed}

-- ---- faults that pass through

abbrev fault_of : {X : Type 0} → Result X AskFault → AskFault
fault_of (Ok x) = OutOfMemory
fault_of (Err e) = e

pub passed : {X Y : Type 0} (r : Result X AskFault) (s : Result Y AskFault) (a b fault : AskFault) → r ≡ Err a → a ≡ b → s ≡ Err b → IsErrOf r fault → IsErrOf s fault
passed r s a b fault r_is same s_is wants = s_is ∙ ap (λ (e : AskFault). Err e) (sym same ∙ ap fault_of (sym r_is ∙ wants))

-- ---- one reference

pub given_dangles : (role : Role) (entry : Option Entry) (decl : Decl) (meets : Bool) → entry ≡ Some (declared decl) → IsTrue meets ↔ (role_of decl ≡ Some role) → IsTrue (not meets) ↔ DanglesAs role entry
given_dangles role entry decl meets is so = subst (λ (e : Option Entry). IsTrue (not meets) ↔ DanglesAs role e) (sym is) (by meets so)
  where
    by : (b : Bool) → IsTrue b ↔ (role_of decl ≡ Some role) → IsTrue (not b) ↔ (role_of decl ≢ Some role)
    by true so = (λ t. absurd cc, λ other. absurd (other (so.0 refl)))
    by false so = (λ t e. let wrong = so.1 e in cc, λ other. refl)

pub nothing_dangles : (role : Role) (entry : Option Entry) → entry ≡ None → IsTrue true ↔ DanglesAs role entry
nothing_dangles role entry is = (λ t. subst (DanglesAs role) (sym is) tt, λ d. refl)

-- ---- some of them

pub none_more : (entries : Entries) (xs : List Reference) (x : Reference) → NoneDangles entries xs → (Dangles entries x → ⊥) → NoneDangles entries (xs ++ x ∷ [])
none_more entries [] x none sound = (sound, tt)
none_more entries (y ∷ xs) x none sound = (none.0, none_more entries xs x none.1 sound)

pub take_next : {X : Type 0} (xs : List X) (i : ℕ) (x : X) → slice_get xs i ≡ Some x → take (suc i) xs ≡ take i xs ++ x ∷ []
take_next [] i x at = absurd cc
take_next (y ∷ xs) zero x at = let same : y ≡ x = cc in ap (λ y. y ∷ []) same
take_next (y ∷ xs) (suc i) x at = ap (λ ys. y ∷ ys) (take_next xs i x at)

pub split_at : {X : Type 0} (xs : List X) (i : ℕ) (x : X) → slice_get xs i ≡ Some x → xs ≡ take i xs ++ x ∷ drop (suc i) xs
split_at [] i x at = absurd cc
split_at (y ∷ xs) zero x at = let same : y ≡ x = cc in ap (λ y. y ∷ xs) same
split_at (y ∷ xs) (suc i) x at = ap (λ ys. y ∷ ys) (split_at xs i x at)

pub take_whole : {X : Type 0} (xs : List X) → take (length xs) xs ≡ xs
take_whole [] = refl
take_whole (x ∷ xs) = ap (λ ys. x ∷ ys) (take_whole xs)

held_at : (xs : List Reference) (i : ℕ) (x : Reference) → slice_get xs i ≡ Some x → Contains xs x
held_at [] i x at = absurd cc
held_at (y ∷ xs) zero x at = let same : y ≡ x = cc in subst (Contains (y ∷ xs)) same (Contains-get_or (y ∷ xs) 0 y (omega arith))
held_at (y ∷ xs) (suc i) x at = Contains-append_right (y ∷ []) xs x (held_at xs i x at)

-- what is mentioned first is mentioned
mentioned : (seen xs all : List Reference) → IsFirstMentions seen xs all → (r : Reference) → Contains all r → Contains seen r ⊎ Contains xs r
mentioned _ _ _ (all_seen seen) r held = inl held
mentioned _ _ all (again seen next rest _ there later) r held = elim (mentioned seen rest all later r held) [
  | inl early ↦ inl early
  | inr late ↦ inr (Contains-append_right (next ∷ []) rest r late)
]
mentioned _ _ all (first seen next rest _ new later) r held = elim (mentioned (seen ++ next ∷ []) rest all later r held) [
  | inl early ↦ elim (Contains-append_cases seen (next ∷ []) r early) [
    | inl before ↦ inl before
    | inr here ↦ inr (Contains-append_left (next ∷ []) rest r here)
  ]
  | inr late ↦ inr (Contains-append_right (next ∷ []) rest r late)
]

pub named_first : (xs all : List Reference) → IsFirstMentions [] xs all → (q : QName) → IsNamed all q → IsNamed xs q
named_first xs all mentions q (r, held, is) =
    (r, elim (mentioned [] xs all mentions r held) [ inl none ↦ absurd (omega (arith, none.1)) | inr has ↦ has ], is)

-- ---- what was done so far

pub none_yet : (entries : Entries) (mentions : List Reference) → NoneDangles entries (take 0 mentions)
none_yet entries [] = tt
none_yet entries (x ∷ xs) = tt

module _ (old middle : World) (mentions : List Reference) (place : ℕ) (x : Reference) (before between : Contents)
    (kept : Kept (IsNamed mentions) (OpensNamed old.entries mentions) old middle before between) (at : slice_get mentions place ≡ Some x) where
  is_named : (q : QName) → q ≡ x.name → IsNamed mentions q
  is_named q is = (x, held_at mentions place x at, is)

  opens_here : (type : Tree) → OpensBehind middle.entries (λ q. q ≡ x.name) type → OpensNamed old.entries mentions type
  opens_here type (q, is, held) = (q, is_named q is, subst (λ e. Contains (entry_types (e q)) type) kept.entries held)

  pub kept_here : (new : World) (after : Contents) → new.entries ≡ middle.entries → new.names ≡ middle.names → new.packages ≡ middle.packages
      → AsksOnly middle.asked x.name new.asked → Extends between after → AddsOnly (entry_types (middle.entries x.name)) between after
      → Kept (IsNamed mentions) (OpensNamed old.entries mentions) old new before after
  kept_here new after entries names packages asks extends adds =
      kept_again (IsNamed mentions) (OpensNamed old.entries mentions) old middle new before between after kept
      (kept_more (λ q. q ≡ x.name) (IsNamed mentions) (OpensBehind middle.entries (λ q. q ≡ x.name)) (OpensNamed old.entries mentions) middle new between after is_named opens_here
      (kept_by_declare x.name middle new between after entries names packages asks extends adds))

  pub outgrown_here : Outgrows between (entry_types (middle.entries x.name)) → OutgrowsAmong (OpensNamed old.entries mentions) before
  outgrown_here outgrown =
      outgrown_before (OpensBehind middle.entries (λ q. q ≡ x.name)) (OpensNamed old.entries mentions) before between opens_here kept.extends kept.adds
      (outgrown_by_declare middle.entries x.name between outgrown)

  module _ (none : NoneDangles old.entries (take place mentions)) where
    pub goes_on : (dangles : Bool) → dangles ≡ false → IsTrue dangles ↔ Dangles middle.entries x → NoneDangles old.entries (take (place + 1) mentions)
    goes_on dangles isnt exact =
        let n : suc place ≡ place + 1 = omega arith in
        let sound : Dangles old.entries x → ⊥ = λ d. let holds = exact.1 (subst (λ (e : Entries). Dangles e x) (sym kept.entries) d) in absurd cc in
        subst (NoneDangles old.entries) (sym (take_next mentions place x at) ∙ ap (λ n. take n mentions) n) (none_more old.entries (take place mentions) x none sound)

    pub found_here : (dangles : Bool) → dangles ≡ true → IsTrue dangles ↔ Dangles middle.entries x → IsFirstDangling old.entries mentions x
    found_here dangles holds exact = record {
      front = take place mentions;
      rest = drop (suc place) mentions;
      stands = split_at mentions place x at;
      before = none;
      dangles = subst (λ (e : Entries). Dangles e x) kept.entries (exact.0 holds);
    }
