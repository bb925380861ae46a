-- What one more name at the front makes of what is known of names.
use Rattle.std.proofs.Common.{◌≡◌, ◌<◌, ℕ, suc, ◌≤◌, ◌-◌, Bool, true, false, cond, List, [], ◌∷◌, ◌++◌, Vec, ◌+◌, length, map, drop, Option, Some, refl, sym, ap, ◌∙◌, arith, option_map, get_or, bytes_eq, add-one, drop-cons}
use Rattle.std.specs.Cmp.Lexicographic.{bytes_decides, nat_list_eq_equiv}
use Rattle.source_places.specs.declared.places.Place.{Place}
use Rattle.repeated_names.specs.Firsts.{at_first, first_of_two, first}
use Rattle.repeated_names.specs.declared.names.NameAt.{NameAt}
use Rattle.repeated_names.specs.Names.{Named, named, named_group}
use Rattle.repeated_names.specs.Repeats.{later, equal_to, repeats, common, group_clashes}
use Rattle.repeated_names.specs.Tables.{first_named}
use Rattle.repeated_names.proofs.FirstLaws.{first_append, later_first, joined_again}

at_test : (x y : Named) (r : Option Place) (ps : List Place) (b : Bool) → option_map (later x.place) r ≡ first ps
    → option_map (later x.place) (cond b (Some (at_first y.place r)) r) ≡ first (cond b (later x.place y.place ∷ ps) ps)
at_test x y r ps true h = ap Some (later_first x.place y.place r) ∙ ap (λ k. Some (at_first (later x.place y.place) k)) h
at_test x y r ps false h = h

-- the later place of a name and the first that is equal is the first of the later ones
pub meets : (x : Named) (xs : List Named) → option_map (later x.place) (first_named x.text xs) ≡ first (equal_to x xs)
meets x [] = refl
meets x (y ∷ ys) = at_test x y (first_named x.text ys) (equal_to x ys) (bytes_eq x.text y.text) (meets x ys)

pub one_more_repeat : (x : Named) (xs : List Named) (known : Option Place) → known ≡ first_named x.text xs
    → first_of_two (option_map (later x.place) known) (first (repeats xs)) ≡ first (repeats (x ∷ xs))
one_more_repeat x xs known is =
    ap (λ k. first_of_two (option_map (later x.place) k) (first (repeats xs))) is
    ∙ ap (λ k. first_of_two k (first (repeats xs))) (meets x xs) ∙ sym (first_append (equal_to x xs) (repeats xs))

pub one_more_common : (x : Named) (xs all : List Named) (known : Option Place) → known ≡ first_named x.text all
    → first_of_two (option_map (later x.place) known) (first (common xs all)) ≡ first (common (x ∷ xs) all)
one_more_common x xs all known is =
    ap (λ k. first_of_two (option_map (later x.place) k) (first (common xs all))) is
    ∙ ap (λ k. first_of_two k (first (common xs all))) (meets x all) ∙ sym (first_append (equal_to x all) (common xs all))

pub one_more_known : (x : Named) (xs : List Named) (old new : List ℕ → Option Place) → ((text : List ℕ) → old text ≡ first_named text xs)
    → ((text : List ℕ) → new text ≡ cond (bytes_eq text x.text) (Some (at_first x.place (old text))) (old text)) → (text : List ℕ) → new text ≡ first_named text (x ∷ xs)
one_more_known x xs old new knows noted text = noted text ∙ ap (λ r. cond (bytes_eq text x.text) (Some (at_first x.place r)) r) (knows text)

-- what an insertion leaves
pub noted : (f : List ℕ → Option Place) (g : Option Place → Place) (name text : List ℕ) (v : Place) (r : Option Place) → v ≡ g (f name)
    → r ≡ cond (bytes_eq name text) (Some v) (f text) → r ≡ cond (bytes_eq text name) (Some (g (f text))) (f text)
noted f g name text v r is e = e ∙ ap (λ x. cond (bytes_eq name text) (Some x) (f text)) is ∙ go (bytes_eq name text) refl ∙ ap (λ b. cond b (Some (g (f text))) (f text)) (nat_list_eq_equiv.symm name text)
  where
    go : (b : Bool) → bytes_eq name text ≡ b → cond b (Some (g (f name))) (f text) ≡ cond b (Some (g (f text))) (f text)
    go true t = ap (λ x. Some (g (f x))) ((bytes_decides name text).0 t)
    go false t = refl

-- ---- a turn that goes one name towards the front

at_front : (names : List NameAt) (k : ℕ) (x d : NameAt) → suc k ≤ length names → x ≡ get_or names k d → map named (drop k names) ≡ named x ∷ map named (drop (suc k) names)
at_front names k x d inside item = ap (map named) (drop-cons names k d (omega (arith, inside)) ∙ ap (λ y. y ∷ drop (suc k) names) (sym item))

one_less : (left : ℕ) → 0 < left → suc (left - 1) ≡ left
one_less left h = omega (arith, h)

in_front : (names : List NameAt) (left : ℕ) (x d : NameAt) → 0 < left → left ≤ length names → x ≡ get_or names (left - 1) d → map named (drop (left - 1) names) ≡ named x ∷ map named (drop left names)
in_front names left x d some inside item =
    at_front names (left - 1) x d (omega (arith, some, inside)) item ∙ ap (λ k. named x ∷ map named (drop k names)) (one_less left some)

pub scan_turn : (names : List NameAt) (left : ℕ) (x d : NameAt) (old new : List ℕ → Option Place) (met found result : Option Place) → 0 < left → x ≡ get_or names (left - 1) d
    → ((text : List ℕ) → old text ≡ first_named text (map named (drop left names))) × (found ≡ first (repeats (map named (drop left names)))) × (left ≤ length names)
    → met ≡ option_map (later x.place) (old x.text.now) → ((text : List ℕ) → new text ≡ cond (bytes_eq text x.text.now) (Some (at_first x.place (old text))) (old text))
    → result ≡ first_of_two met found
    → ((text : List ℕ) → new text ≡ first_named text (map named (drop (left - 1) names))) × (result ≡ first (repeats (map named (drop (left - 1) names)))) × (left - 1 ≤ length names)
scan_turn names left x d old new met found result some item (knows, is, inside) meeting noting joined =
    let front : map named (drop (left - 1) names) ≡ named x ∷ map named (drop left names) = in_front names left x d some inside item in (
      λ text. one_more_known (named x) (map named (drop left names)) old new knows noting text ∙ sym (ap (first_named text) front),
      joined ∙ ap (λ k. first_of_two k found) meeting ∙ ap (first_of_two (option_map (later x.place) (old x.text.now))) is
          ∙ one_more_repeat (named x) (map named (drop left names)) (old x.text.now) (knows x.text.now) ∙ sym (ap (λ k. first (repeats k)) front),
      omega (arith, inside),
    )

pub common_turn : (names : List NameAt) (left : ℕ) (x d : NameAt) (table : List ℕ → Option Place) (found result : Option Place) → 0 < left → x ≡ get_or names (left - 1) d
    → ((all : List Named) → ((text : List ℕ) → table text ≡ first_named text all) → found ≡ first (common (map named (drop left names)) all)) × (left ≤ length names)
    → result ≡ first_of_two (option_map (later x.place) (table x.text.now)) found
    → ((all : List Named) → ((text : List ℕ) → table text ≡ first_named text all) → result ≡ first (common (map named (drop (left - 1) names)) all)) × (left - 1 ≤ length names)
common_turn names left x d table found result some item (is, inside) joined =
    let front : map named (drop (left - 1) names) ≡ named x ∷ map named (drop left names) = in_front names left x d some inside item in (
      λ all knows. joined ∙ ap (first_of_two (option_map (later x.place) (table x.text.now))) (is all knows)
          ∙ one_more_common (named x) (map named (drop left names)) all (table x.text.now) (knows x.text.now) ∙ sym (ap (λ k. first (common k all)) front),
      omega (arith, inside),
    )

-- ---- groups

pub clash_turn : {A : Type 0} (all : List Named) (groups : List (Vec NameAt A)) (i : ℕ) (g : Vec NameAt A) (found own result : Option Place) (whole : Option Place) → i < length groups → g ≡ get_or groups i g
    → first_of_two found (first (group_clashes all (map named_group (drop i groups)))) ≡ whole
    → own ≡ first_of_two (first (repeats (map named g.items))) (first (common (map named g.items) all)) → result ≡ first_of_two found own
    → first_of_two result (first (group_clashes all (map named_group (drop (i + 1) groups)))) ≡ whole
clash_turn all groups i g found own result whole inside item so_far is joined =
    let cons : drop i groups ≡ g ∷ drop (suc i) groups = drop-cons groups i g inside ∙ ap (λ y. y ∷ drop (suc i) groups) (sym item) in
    let rest : Option Place = first (group_clashes all (map named_group (drop (suc i) groups))) in
    let one : own ≡ first (repeats (map named g.items) ++ common (map named g.items) all) = is ∙ sym (first_append (repeats (map named g.items)) (common (map named g.items) all)) in
    let split : first (group_clashes all (map named_group (drop i groups))) ≡ first_of_two own rest =
    ap (λ k. first (group_clashes all (map named_group k))) cons
    ∙ first_append (repeats (map named g.items) ++ common (map named g.items) all) (group_clashes all (map named_group (drop (suc i) groups)))
    ∙ ap (λ k. first_of_two k rest) (sym one) in
    rw add-one (ap (λ k. first_of_two k rest) joined ∙ joined_again found own rest ∙ sym (ap (first_of_two found) split) ∙ so_far)

-- what `get_or` reads past the end
abbrev pub no_name : NameAt
no_name = record { text = record { ref_ptr = (0, 0); now = [] }; place = record { file = 0; at = 0 } }
