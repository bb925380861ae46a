-- Looking names up, one after the other.
use Rattle.std.proofs.Common.{◌≡◌, ℕ, zero, suc, ◌+◌, List, [], ◌∷◌, ◌++◌, length, take, false, Option, Some, slice_get, refl, sym, ap, ◌∙◌, subst, arith}
use Rattle.std.specs.Prelude.{IsErrOf, Result, Ok, Err, if◌then◌else◌}
use Rattle.std.specs.Result.{is_err, is_ok}
use Rattle.std.specs.List.{Contains}
use Rattle.std.proofs.lemmas.List.Elements.{Contains-append_right, Contains-get_or}
use Rattle.go_values.specs.declared.qualified.QName.{QName}
use Rattle.type_terms.specs.Trees.{Tree}
use Rattle.type_terms.specs.Arenas.{Contents, Extends}
use Rattle.type_terms.specs.Extensions.{extends_decl, extends_below}
use Rattle.type_terms.specs.Additions.{AddsOnly, Outgrows}
use Rattle.environments.specs.Environments.{Entry, declared, AsksOnly, entry_types}
use Rattle.environments.specs.Kept.{World, Kept, OpensBehind}
use Rattle.environments.specs.KeptLaws.{kept_again, kept_more, kept_by_declare, outgrown_before, outgrown_by_declare}
use Rattle.environments.specs.OpenedTypes.{OutgrowsAmong}
use Rattle.dangling_references.specs.declared.fault.AskFault.{AskFault}
use Rattle.dangling_references.specs.declared.fault.AskFault.TheVariants.{OutOfMemory}
use Rattle.asked_names.specs.Finding.{Entries, IsFound, AreFound}
use Rattle.asked_names.specs.declared.finding.Found.{Found}
use Rattle.asked_names.specs.declared.finding.Found.TheVariants.{Unknown, Damaged, Declared}

-- ---- faults that pass through

abbrev fault_of : {X : Type 0} → Result X AskFault → AskFault
fault_of (Ok x) = OutOfMemory
fault_of (Err e) = e

pub passed : {X Y : Type 0} (r : Result X AskFault) (s : Result Y AskFault) (a b fault : AskFault) → r ≡ Err a → a ≡ b → s ≡ Err b → IsErrOf r fault → IsErrOf s fault
passed r s a b fault r_is same s_is wants = s_is ∙ ap (λ (e : AskFault). Err e) (sym same ∙ ap fault_of (sym r_is ∙ wants))

-- a call whose result is no error
pub where_no_error : {T E X : Type 0} (r : Result T E) (x y : X) → is_err r ≡ false → (if is_ok r then x else y) ≡ x
where_no_error (Ok value) x y none = refl
where_no_error (Err e) x y none = absurd cc

-- ---- lists

take_next : {X : Type 0} (xs : List X) (i : ℕ) (x : X) → slice_get xs i ≡ Some x → take (suc i) xs ≡ take i xs ++ x ∷ []
take_next [] i x at = absurd cc
take_next (y ∷ xs) zero x at = let same : y ≡ x = cc in ap (λ y. y ∷ []) same
take_next (y ∷ xs) (suc i) x at = ap (λ ys. y ∷ ys) (take_next xs i x at)

held_at : (xs : List QName) (i : ℕ) (x : QName) → slice_get xs i ≡ Some x → Contains xs x
held_at [] i x at = absurd cc
held_at (y ∷ xs) zero x at = let same : y ≡ x = cc in subst (Contains (y ∷ xs)) same (Contains-get_or (y ∷ xs) 0 y (omega arith))
held_at (y ∷ xs) (suc i) x at = Contains-append_right (y ∷ []) xs x (held_at xs i x at)

-- ---- what was found

found_grown : (old new : Contents) → Extends old new → (entry : Option Entry) (one : Found) → IsFound old.nodes entry one → IsFound new.nodes entry one
found_grown old new grown entry Unknown is = is
found_grown old new grown entry (Damaged fault) is = is
found_grown old new grown entry (Declared node) (is, inside) =
    (is ∙ ap (λ d. Some (declared d)) (sym (extends_decl old new grown node inside)), extends_below old new grown _ inside)

all_grown : (old new : Contents) → Extends old new → (entries : Entries) (names : List QName) (found : List Found) → AreFound old.nodes entries names found → AreFound new.nodes entries names found
all_grown old new grown entries [] [] are = tt
all_grown old new grown entries [] (f ∷ fs) are = absurd are
all_grown old new grown entries (q ∷ qs) [] are = absurd are
all_grown old new grown entries (q ∷ qs) (f ∷ fs) are = (found_grown old new grown (entries q) f are.0, all_grown old new grown entries qs fs are.1)

one_more : (arena : Contents) (entries : Entries) (names : List QName) (found : List Found) (q : QName) (one : Found) → AreFound arena.nodes entries names found → IsFound arena.nodes (entries q) one
    → AreFound arena.nodes entries (names ++ q ∷ []) (found ++ one ∷ [])
one_more arena entries [] [] q one are is = (is, tt)
one_more arena entries [] (f ∷ fs) q one are is = absurd are
one_more arena entries (n ∷ ns) [] q one are is = absurd are
one_more arena entries (n ∷ ns) (f ∷ fs) q one are is = (are.0, one_more arena entries ns fs q one are.1 is)

pub finds_on : (old new : Contents) → Extends old new → (entries : Entries) (names : List QName) (place : ℕ) (q : QName) (found : List Found) (one : Found) → slice_get names place ≡ Some q
    → AreFound old.nodes entries (take place names) found → IsFound new.nodes (entries q) one → AreFound new.nodes entries (take (place + 1) names) (found ++ one ∷ [])
finds_on old new grown entries names place q found one at are is =
    let n : suc place ≡ place + 1 = omega arith in
    subst (λ ns. AreFound new.nodes entries ns (found ++ one ∷ [])) (sym (take_next names place q at) ∙ ap (λ n. take n names) n)
    (one_more new entries (take place names) found q one (all_grown old new grown entries (take place names) found are) is)

pub none_yet : (arena : Contents) (entries : Entries) (names : List QName) → AreFound arena.nodes entries (take 0 names) []
none_yet arena entries [] = tt
none_yet arena entries (x ∷ xs) = tt

pub take_whole : {X : Type 0} (xs : List X) → take (length xs) xs ≡ xs
take_whole [] = refl
take_whole (x ∷ xs) = ap (λ ys. x ∷ ys) (take_whole xs)

module _ (old middle : World) (names : List QName) (place : ℕ) (x : QName) (before between : Contents)
    (kept : Kept (Contains names) (OpensBehind old.entries (Contains names)) old middle before between) (at : slice_get names place ≡ Some x) where
  is_named : (q : QName) → q ≡ x → Contains names q
  is_named q is = subst (Contains names) (sym is) (held_at names place x at)

  opens_here : (type : Tree) → OpensBehind middle.entries (λ q. q ≡ x) type → OpensBehind old.entries (Contains names) type
  opens_here type (q, is, held) = (q, is_named q is, subst (λ e. Contains (entry_types (e q)) type) kept.entries held)

  pub kept_here : (new : World) (after : Contents) → new.entries ≡ middle.entries → new.names ≡ middle.names → new.packages ≡ middle.packages
      → AsksOnly middle.asked x new.asked → Extends between after → AddsOnly (entry_types (middle.entries x)) between after
      → Kept (Contains names) (OpensBehind old.entries (Contains names)) old new before after
  kept_here new after entries names_of packages asks extends adds =
      kept_again (Contains names) (OpensBehind old.entries (Contains names)) old middle new before between after kept
      (kept_more (λ q. q ≡ x) (Contains names) (OpensBehind middle.entries (λ q. q ≡ x)) (OpensBehind old.entries (Contains names)) middle new between after is_named opens_here
      (kept_by_declare x middle new between after entries names_of packages asks extends adds))

  pub outgrown_here : Outgrows between (entry_types (middle.entries x)) → OutgrowsAmong (OpensBehind old.entries (Contains names)) before
  outgrown_here outgrown =
      outgrown_before (OpensBehind middle.entries (λ q. q ≡ x)) (OpensBehind old.entries (Contains names)) before between opens_here kept.extends kept.adds
      (outgrown_by_declare middle.entries x between outgrown)

  pub finds_here : (after : Contents) → Extends between after → (found : List Found) (one : Found) → AreFound between.nodes old.entries (take place names) found → IsFound after.nodes (middle.entries x) one
      → AreFound after.nodes old.entries (take (place + 1) names) (found ++ one ∷ [])
  finds_here after grown found one are is =
      finds_on between after grown old.entries names place x found one at are (subst (λ (e : Entries). IsFound after.nodes (e x) one) kept.entries is)
