-- A way through names comes to no name twice, so it is no longer than there are names that are reached.
use Rattle.std.proofs.Common.{◌≡◌, ℕ, zero, suc, ◌+◌, ◌<◌, ◌≤◌, List, [], ◌∷◌, length, Bool, true, false, ◌||◌, Some, None, refl, sym, ap, subst, ◌∙◌, arith}
use Rattle.std.specs.List.{AllByRecursion, Contains, IsDistinct, list_any}
use Rattle.std.proofs.lemmas.Map.Made.{length-le_from_is_member}
use Rattle.std.proofs.lemmas.Map.Views.{list_any-from_Contains}
use Rattle.code_tables.specs.declared.predeclared.Basic.{Basic}
use Rattle.go_values.specs.declared.qualified.QName.{QName}
use Rattle.go_values.specs.contracts.qualified.QNameEq.TheImpl.Laws as qname_laws
use Rattle.go_values.specs.Exact.{exact_qname}
use Rattle.type_terms.specs.Trees.{Tree, predeclared, named}
use Rattle.type_terms.specs.TreeEquality.{same_name}
use Rattle.basic_types.specs.BasicTypes.{Entries, head_name, side_behind, ComesDownTo, at_once, onward, IsReached, at_head, further, comes_down_within, basic_type}
use Rattle.basic_types.proofs.BasicLemmas.{no_basic, same_basic, none_yet, one_more, by_itself, more_names}

module _ (entries : Entries) where
  -- a name that is found leads on and is reached
  abbrev IsOnWay : Tree → QName → Type 0
  IsOnWay type q = IsReached entries type q × ((side : Tree) × (side_behind (entries q) ≡ Some side))

  -- The names on a way: with fewer names nothing is found, and none comes twice.
  record Way (basic : Basic) (type : Tree) : Type 0 where
    names : List QName
    found : comes_down_within entries (length names) type ≡ Some basic
    least : (m : ℕ) → m < length names → comes_down_within entries m type ≡ None
    all : AllByRecursion (λ q. comes_down_within entries (length names) (named q) ≡ Some basic) names
    on_way : AllByRecursion (IsOnWay type) names
    distinct : IsDistinct same_name names

  all_more : (n m : ℕ) (basic : Basic) → n ≤ m → (qs : List QName)
      → AllByRecursion (λ q. comes_down_within entries n (named q) ≡ Some basic) qs
      → AllByRecursion (λ q. comes_down_within entries m (named q) ≡ Some basic) qs
  all_more n m basic le [] all = tt
  all_more n m basic le (q ∷ qs) all = (more_names entries n m (named q) basic le all.0, all_more n m basic le qs all.1)

  -- a name that isn't found with so many names is none of those that are
  apart : (n : ℕ) (q : QName) (basic : Basic) → comes_down_within entries n (named q) ≡ None → (qs : List QName)
      → AllByRecursion (λ q. comes_down_within entries n (named q) ≡ Some basic) qs
      → AllByRecursion (λ other. same_name q other ≡ false) qs
  apart n q basic none [] all = tt
  apart n q basic none (other ∷ qs) all = (go (same_name q other) refl, apart n q basic none qs all.1)
    where
      go : (b : Bool) → same_name q other ≡ b → b ≡ false
      go false e = refl
      go true e =
          let same = ap (λ n. named n) (exact_qname q other e) in
          absurd (no_basic basic (sym none ∙ ap (comes_down_within entries n) same ∙ all.0))

  all_further : (type side : Tree) (head : QName) → head_name type ≡ Some head → side_behind (entries head) ≡ Some side
      → (qs : List QName) → AllByRecursion (IsOnWay side) qs → AllByRecursion (IsOnWay type) qs
  all_further type side head is behind [] all = tt
  all_further type side head is behind (q ∷ qs) all =
      ((further type side head q is behind all.0.0, all.0.1), all_further type side head is behind qs all.1)

  way : (basic : Basic) (type : Tree) → ComesDownTo entries basic type → Way basic type
  unfolding IsDistinct
  way basic _ at_once = record {
    names = [];
    found = by_itself entries 0 (predeclared basic) refl;
    least = λ m lt. absurd (omega arith);
    all = tt;
    on_way = tt;
    distinct = tt;
  }
  way basic _ (onward type side head is behind down) = longer (way basic side down)
    where
      least : (w : Way basic side) (m : ℕ) → m < suc (length w.names) → comes_down_within entries m type ≡ None
      least w zero lt = none_yet entries type head is
      least w (suc m) lt = one_more entries m type side head is behind ∙ w.least m (omega arith)

      -- the name itself is found where the type is
      same_as_name : (n : ℕ) → comes_down_within entries n (named head) ≡ comes_down_within entries n type
      same_as_name zero = none_yet entries (named head) head refl ∙ sym (none_yet entries type head is)
      same_as_name (suc n) = one_more entries n (named head) side head refl behind ∙ sym (one_more entries n type side head is behind)

      longer : Way basic side → Way basic type
      longer w =
          let found = one_more entries (length w.names) type side head is behind ∙ w.found in
          record {
            names = head ∷ w.names;
            found = found;
            least = least w;
            all = (same_as_name (suc (length w.names)) ∙ found, all_more (length w.names) (suc (length w.names)) basic (omega arith) w.names w.all);
            on_way = ((at_head type head is, (side, behind)), all_further type side head is behind w.names w.on_way);
            distinct = (apart (length w.names) head basic (same_as_name (length w.names) ∙ least w (length w.names) (omega arith)) w.names w.all, w.distinct);
          }

  each_among : (type : Tree) (names : List QName)
      → ((q : QName) (side : Tree) → IsReached entries type q → side_behind (entries q) ≡ Some side → Contains names q)
      → (qs : List QName) → AllByRecursion (IsOnWay type) qs → (q : QName) → list_any (same_name q) qs ≡ true
      → list_any (same_name q) names ≡ true
  each_among type names has [] all q held = absurd cc
  each_among type names has (first ∷ qs) all q held = go (same_name q first) refl held (each_among type names has qs all.1 q)
    where
      go : (b : Bool) → same_name q first ≡ b → b || list_any (same_name q) qs ≡ true
          → (list_any (same_name q) qs ≡ true → list_any (same_name q) names ≡ true) → list_any (same_name q) names ≡ true
      go true e held later =
          subst (λ n. list_any (same_name n) names ≡ true) (sym (exact_qname q first e))
          (list_any-from_Contains qname_laws.laws-law first names (has first (all.0).1.0 (all.0).0 (all.0).1.1))
      go false e held later = later held

  pub names_are_enough : (names : List QName) (type : Tree) (basic : Basic)
      → ((q : QName) (side : Tree) → IsReached entries type q → side_behind (entries q) ≡ Some side → Contains names q)
      → ComesDownTo entries basic type → basic_type entries names type ≡ Some basic
  names_are_enough names type basic has down =
      let w = way basic type down in
      let few = length-le_from_is_member qname_laws.laws-law w.names names w.distinct (each_among type names has w.names w.on_way) in
      more_names entries (length w.names) (length names) type basic few w.found

  -- what is come down to is found by some number of names
  pub down_found : (basic : Basic) (type : Tree) → ComesDownTo entries basic type
      → (n : ℕ) × (comes_down_within entries n type ≡ Some basic)
  down_found basic type down = let w = way basic type down in (length w.names, w.found)

  pub one_basic : (type : Tree) (a b : Basic) → ComesDownTo entries a type → ComesDownTo entries b type → a ≡ b
  one_basic type a b first second =
      let one = down_found a type first in
      let other = down_found b type second in
      same_basic a b (sym (more_names entries one.0 (one.0 + other.0) type a (omega arith) one.1)
      ∙ more_names entries other.0 (one.0 + other.0) type b (omega arith) other.1)
