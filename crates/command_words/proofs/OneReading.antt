-- Words have one reading.
use Rattle.std.proofs.Common.{◌≤◌, ◌≡◌, ℕ, ◌+◌, ◌<◌, inl, inr, suc, List, [], ◌∷◌, ◌++◌, length, take, drop, map, get_or, codes, refl, sym, ◌∙◌, ap, arith}
use Rattle.std.specs.List.{AllByRecursion}
use Rattle.std.proofs.lemmas.Bool.{cases_lt, cases_order}
use Rattle.std.proofs.lemmas.List.{take-append-drop}
use Rattle.command_words.specs.Texts.{Word, Source, source_word, Lacks, IsSource, Name, name_word, IsName}
use Rattle.command_words.specs.Forms.{Request, list, show, check, IsForm, Begins, IsWrongWord, IsFirstWrong}

-- a path ends at the first sign that no path has, so it is the one that stands there
one_split : (sign : ℕ) (a b x y : List ℕ) → Lacks sign a → Lacks sign b → a ++ sign ∷ x ≡ b ++ sign ∷ y → (a ≡ b) × (x ≡ y)
one_split sign [] [] x y la lb e = (refl, cc)
one_split sign [] (c ∷ b) x y la lb e = absurd (lb 0 (omega arith) (cc))
one_split sign (c ∷ a) [] x y la lb e = absurd (la 0 (omega arith) (cc))
one_split sign (c ∷ a) (d ∷ b) x y la lb e =
    let tails : a ++ sign ∷ x ≡ b ++ sign ∷ y = cc in
    let heads : c ≡ d = cc in
    let more = one_split sign a b x y (λ k h. la (suc k) (omega arith)) (λ k h. lb (suc k) (omega arith)) tails in
    let front : a ≡ b = more.0 in
    (cc, more.1)

one_source : (a b : Source) → IsSource a → IsSource b → source_word a ≡ source_word b → a ≡ b
one_source a b sa sb e =
    let rest : a.path ++ 61 ∷ a.file ≡ b.path ++ 61 ∷ b.file = cc in
    let parts = one_split 61 a.path b.path a.file b.file sa.path.no_equals sb.path.no_equals rest in
    λ i. record { path = parts.0 i; file = parts.1 i }

one_name : (a b : Name) → IsName a → IsName b → name_word a ≡ name_word b → a ≡ b
one_name a b sa sb e =
    let parts = one_split 58 a.path b.path a.name b.name sa.path.no_colon sb.path.no_colon e in
    λ i. record { path = parts.0 i; name = parts.1 i }

one_list : (xs ys : List Name) → AllByRecursion IsName xs → AllByRecursion IsName ys → map name_word xs ≡ map name_word ys → xs ≡ ys
one_list [] [] sx sy e = refl
one_list [] (y ∷ ys) sx sy e = cc
one_list (x ∷ xs) [] sx sy e = cc
one_list (x ∷ xs) (y ∷ ys) sx sy e =
    let heads : name_word x ≡ name_word y = cc in
    let tails : map name_word xs ≡ map name_word ys = cc in
    let first = one_name x y sx.0 sy.0 heads in
    let others = one_list xs ys sx.1 sy.1 tails in
    λ i. first i ∷ others i

-- the commands differ by name
pub apart_by_name : (words others : List Word) → codes "list" ∷ words ≡ codes "show" ∷ others → ⊥
apart_by_name words others e =
    let first : ◌≡◌ {A = ℕ} 108 115 = ap (λ (t : List Word). get_or (get_or t 0 []) 0 0) e in
    omega arith

pub no_check_lists : (words others : List Word) → codes "list" ∷ words ≡ codes "check" ∷ others → ⊥
no_check_lists words others e =
    let first : ◌≡◌ {A = ℕ} 108 99 = ap (λ (t : List Word). get_or (get_or t 0 []) 0 0) e in
    omega arith

pub no_check_shows : (words others : List Word) → codes "show" ∷ words ≡ codes "check" ∷ others → ⊥
no_check_shows words others e =
    let first : ◌≡◌ {A = ℕ} 115 99 = ap (λ (t : List Word). get_or (get_or t 0 []) 0 0) e in
    omega arith

-- no source's word is the mark
pub not_mark : (source : Source) → source_word source ≡ codes "--" → ⊥
not_mark source e =
    let first : ◌≡◌ {A = ℕ} 102 45 = ap (λ (w : Word). get_or w 0 0) e in
    omega arith

pub heads_are : {X : Type 0} (x y : X) (xs ys : List X) → x ∷ xs ≡ y ∷ ys → x ≡ y
heads_are x y xs ys e = cc

pub tails_are : {X : Type 0} (x y : X) (xs ys : List X) → x ∷ xs ≡ y ∷ ys → xs ≡ ys
tails_are x y xs ys e = cc

-- sources up to the mark, and names behind it
one_shown : (xs ys : List Source) (ms ns : List Name) → AllByRecursion IsSource xs → AllByRecursion IsSource ys
    → AllByRecursion IsName ms → AllByRecursion IsName ns
    → map source_word xs ++ codes "--" ∷ map name_word ms ≡ map source_word ys ++ codes "--" ∷ map name_word ns
    → (xs ≡ ys) × (ms ≡ ns)
one_shown [] [] ms ns sx sy sm sn e = (refl, one_list ms ns sm sn (tails_are _ _ _ _ e))
one_shown [] (y ∷ ys) ms ns sx sy sm sn e = absurd (not_mark y (sym (heads_are _ _ _ _ e)))
one_shown (x ∷ xs) [] ms ns sx sy sm sn e = absurd (not_mark x (heads_are _ _ _ _ e))
one_shown (x ∷ xs) (y ∷ ys) ms ns sx sy sm sn e =
    let first = one_source x y sx.0 sy.0 (heads_are _ _ _ _ e) in
    let more = one_shown xs ys ms ns sx.1 sy.1 sm sn (tails_are _ _ _ _ e) in
    let others : xs ≡ ys = more.0 in
    (λ i. first i ∷ others i, more.1)

one_checked : (xs ys : List Source) → AllByRecursion IsSource xs → AllByRecursion IsSource ys → map source_word xs ≡ map source_word ys → xs ≡ ys
one_checked [] [] sx sy e = refl
one_checked [] (y ∷ ys) sx sy e = cc
one_checked (x ∷ xs) [] sx sy e = cc
one_checked (x ∷ xs) (y ∷ ys) sx sy e =
    let first = one_source x y sx.0 sy.0 (heads_are _ _ _ _ e) in
    let others = one_checked xs ys sx.1 sy.1 (tails_are _ _ _ _ e) in
    λ i. first i ∷ others i

pub one_request : (words : List Word) (a b : Request) → IsForm words a → IsForm words b → a ≡ b
one_request words (list a) (list b) fa fb =
    let ea = fa.0 in let eb = fb.0 in
    let same : source_word a ≡ source_word b = cc in
    ap list (one_source a b fa.1 fb.1 same)
one_request words (list a) (show b ys) fa fb = absurd (apart_by_name _ _ (sym fa.0 ∙ fb.0))
one_request words (show a xs) (list b) fa fb = absurd (apart_by_name _ _ (sym fb.0 ∙ fa.0))
one_request words (show a xs) (show b ys) fa fb =
    let parts = one_shown a b xs ys fa.2 fb.2 fa.3 fb.3 (tails_are _ _ _ _ (sym fa.0 ∙ fb.0)) in
    let sources : a ≡ b = parts.0 in
    let names : xs ≡ ys = parts.1 in
    λ i. show (sources i) (names i)
one_request words (list a) (check b) fa fb = absurd (no_check_lists _ _ (sym fa.0 ∙ fb.0))
one_request words (check a) (list b) fa fb = absurd (no_check_lists _ _ (sym fb.0 ∙ fa.0))
one_request words (show a xs) (check b) fa fb = absurd (no_check_shows _ _ (sym fa.0 ∙ fb.0))
one_request words (check a) (show b ys) fa fb = absurd (no_check_shows _ _ (sym fb.0 ∙ fa.0))
one_request words (check a) (check b) fa fb = ap check (one_checked a b fa.2 fb.2 (tails_are _ _ _ _ (sym fa.0 ∙ fb.0)))

-- a form begins with each front of it
pub begun : (words : List Word) (k : ℕ) (request : Request) → IsForm words request → Begins (take k words)
begun words k request form = (drop k words, request, rw (take-append-drop k words) form)

pub apart : (words : List Word) (k : ℕ) (request : Request) → IsWrongWord words k → IsForm words request → ⊥
apart words k request wrong form =
    elim (cases_lt (length words) k) as (λ _. ⊥) [
      | inl h ↦ (wrong.lacking h).1 request form
      | inr h ↦ wrong.there h (begun words k request form)
    ]

-- of two wrong words none comes before the other
not_before : (words : List Word) (j k : ℕ) → IsWrongWord words j → IsWrongWord words k → j < k → ⊥
not_before words j k earlier later below =
    elim (cases_lt (length words) j) as (λ _. ⊥) [
      | inl h ↦
          let lacks : length words < k = omega arith in
          let first : j ≡ length words + 1 = (earlier.lacking h).0 in
          let second : k ≡ length words + 1 = (later.lacking lacks).0 in
          omega arith
      | inr h ↦ earlier.there h (later.before j below)
    ]

pub one_wrong_word : (words : List Word) (j k : ℕ) → IsWrongWord words j → IsWrongWord words k → j ≡ k
one_wrong_word words j k wj wk =
    elim (cases_order j k) as (λ _. j ≡ k) [
      | inl e ↦ e
      | inr h ↦ elim h as (λ _. j ≡ k) [ inl below ↦ absurd (not_before words j k wj wk below) | inr above ↦ absurd (not_before words k j wk wj above) ]
    ]

-- the words up to a wrong one are no more than it
in_reach : (words : List Word) (k : ℕ) → IsWrongWord words k → k ≤ length words + 1
in_reach words k wrong =
    elim (cases_lt (length words) k) as (λ _. k ≤ length words + 1) [
      | inl h ↦ let at : k ≡ length words + 1 = (wrong.lacking h).0 in omega arith
      | inr h ↦ omega arith
    ]

pub first_of_wrong : (words : List Word) (k : ℕ) → IsWrongWord words k → IsFirstWrong words k
first_of_wrong words k wrong = record { before = wrong.before; there = wrong.there; reached = in_reach words k wrong }

-- words of a form are right, each and all
pub first_of_form : (words : List Word) (n : ℕ) (request : Request) → IsForm words request → n ≡ length words + 1 → IsFirstWrong words n
first_of_form words n request form is = record {
  before = λ j _. begun words j request form;
  there = λ h. absurd (omega arith);
  reached = omega arith;
}
