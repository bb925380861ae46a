-- What a term leads to, by what is found of its type.
use Rattle.std.proofs.Common.{◌≡◌, Bool, true, false, ◌||◌, cond, List, Option, Some, None, Ok, Err, refl, ap}
use Rattle.std.specs.Prelude.{Result, IfSome}
use Rattle.std.specs.List.{list_any}
use Rattle.go_values.specs.declared.qualified.QName.{QName}
use Rattle.type_terms.specs.Trees.{Tree}
use Rattle.interface_opening.specs.Elements.{Term, Interface, has_term, Opened, Looks}
use Rattle.interface_opening.specs.Opening.{Item, term, Step, goes, stops, opens, noting, closing, is_open, unless_open, after, settled, new_or_known, joined, shown, step, has, tested}
use Rattle.replacement.specs.declared.faults.SetFault.{SetFault}
use Rattle.replacement.specs.declared.faults.SetFault.TheVariants.{EmbedCycle}
use Rattle.replacement.specs.Expansion.{Entries, then, expanded}
use Rattle.type_sets.specs.Interfaces.{SetMethod as Method}
use Rattle.type_sets.specs.TypeSets.{looks, name_of}
use Rattle.opened_interfaces.specs.Calls.{settled_for, unless_shown, seen}

module _ (entries : Entries) (names : List QName) where
  abbrev pub look : Looks Tree QName Method SetFault
  look = looks entries names

  module _ (holder : Tree) (several : Bool) (x : Term Tree) (rest : List (Item Tree QName)) (s : Opened Tree Method) where
    abbrev pub on : Result Tree SetFault → Step Tree QName Method SetFault
    on = settled look holder several x.tilde x.type rest s

    pub term_settled : (type : Tree) → settled_for entries names (several || x.tilde) x.type ≡ Ok type
        → step look (term holder several x) rest s ≡ unless_open look (is_open look rest (name_of entries names type)) (new_or_known look holder several x.tilde x.type type s)
    term_settled type is = by (tested look (several || x.tilde) x.type) (expanded entries names x.type) is
      where
        by : (r : Result (Unit {0}) SetFault) (e : Result Tree SetFault) → then r (λ u. e) ≡ Ok type
            → after look r (on e) ≡ unless_open look (is_open look rest (name_of entries names type)) (new_or_known look holder several x.tilde x.type type s)
        by (Ok u) e is = ap on is
        by (Err f) e is = absurd cc

    pub term_stops : (f : SetFault) → settled_for entries names (several || x.tilde) x.type ≡ Err f → step look (term holder several x) rest s ≡ stops f
    term_stops f is = by (tested look (several || x.tilde) x.type) (expanded entries names x.type) is
      where
        by : (r : Result (Unit {0}) SetFault) (e : Result Tree SetFault) → then r (λ u. e) ≡ Err f → after look r (on e) ≡ stops f
        by (Ok u) e is = ap on is
        by (Err g) e is = let same : g ≡ f = cc in ap stops same

  module _ (rest : List (Item Tree QName)) (st : Step Tree QName Method SetFault) where
    pub closed_goes : (name : Option QName) → IfSome name (λ q. list_any (closing look q) rest ≡ false) → unless_open look (is_open look rest name) st ≡ st
    closed_goes None is = refl
    closed_goes (Some q) is = ap (λ b. unless_open look (cond b (Some q) None) st) is

    pub open_stops : (q : QName) → list_any (closing look q) rest ≡ true → unless_open look (is_open look rest (Some q)) st ≡ stops (EmbedCycle q)
    open_stops q is = ap (λ b. unless_open look (cond b (Some q) None) st) is

  module _ (holder : Tree) (several tilde : Bool) (type x : Tree) (s : Opened Tree Method) where
    pub known_joins : has look s.types x ≡ true → new_or_known look holder several tilde type x s ≡ joined look holder several x s
    known_joins is = ap (λ b. cond b (joined look holder several x s) (shown look holder tilde type x s (look.beneath x))) is

    pub new_shows : has look s.types x ≡ false → new_or_known look holder several tilde type x s ≡ shown look holder tilde type x s (look.beneath x)
    new_shows is = ap (λ b. cond b (joined look holder several x s) (shown look holder tilde type x s (look.beneath x))) is

  module _ (holder : Tree) (tilde : Bool) (type x : Tree) (s : Opened Tree Method) where
    abbrev pub noted : Step Tree QName Method SetFault
    noted = goes (noting look (has_term holder (record { tilde = tilde; type = x })) s)

    pub shown_goes : seen entries names x type ≡ Ok None → shown look holder tilde type x s (look.beneath x) ≡ goes (noting look (has_term holder (record { tilde = tilde; type = x })) s)
    shown_goes is = by (look.beneath x) is
      where
        whole_told : (w : Result (Unit {0}) SetFault) → then {Y = Option (Interface Tree QName Method)} w (λ u. Ok None) ≡ Ok None → after look w noted ≡ noted
        whole_told (Ok u) is = refl
        whole_told (Err f) is = absurd cc

        by : (r : Result (Option (Interface Tree QName Method)) SetFault) → then r (unless_shown entries names (look.whole type)) ≡ Ok None → shown look holder tilde type x s r ≡ noted
        by (Ok None) is = whole_told (look.whole type) is
        by (Ok (Some it)) is = absurd cc
        by (Err f) is = absurd cc

    pub shown_opens : (it : Interface Tree QName Method) → seen entries names x type ≡ Ok (Some it) → shown look holder tilde type x s (look.beneath x) ≡ opens x it s
    shown_opens it is = by (look.beneath x) is
      where
        never : (w : Result (Unit {0}) SetFault) → then {Y = Option (Interface Tree QName Method)} w (λ u. Ok None) ≡ Ok (Some it) → ⊥
        never (Ok u) is = cc
        never (Err f) is = cc

        by : (r : Result (Option (Interface Tree QName Method)) SetFault) → then r (unless_shown entries names (look.whole type)) ≡ Ok (Some it) → shown look holder tilde type x s r ≡ opens x it s
        by (Ok None) is = absurd (never (look.whole type) is)
        by (Ok (Some own)) is = let same : own ≡ it = cc in ap (λ i. opens x i s) same
        by (Err f) is = absurd cc

    pub shown_stops : (f : SetFault) → seen entries names x type ≡ Err f → shown look holder tilde type x s (look.beneath x) ≡ stops f
    shown_stops f is = by (look.beneath x) is
      where
        whole_told : (w : Result (Unit {0}) SetFault) → then {Y = Option (Interface Tree QName Method)} w (λ u. Ok None) ≡ Err f → after look w noted ≡ stops f
        whole_told (Ok u) is = absurd cc
        whole_told (Err g) is = let same : g ≡ f = cc in ap stops same

        by : (r : Result (Option (Interface Tree QName Method)) SetFault) → then r (unless_shown entries names (look.whole type)) ≡ Err f → shown look holder tilde type x s r ≡ stops f
        by (Ok None) is = whole_told (look.whole type) is
        by (Ok (Some it)) is = absurd cc
        by (Err g) is = let same : g ≡ f = cc in ap stops same
