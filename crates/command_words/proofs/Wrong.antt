-- Words that are of no form, by the first that is wrong.
use Rattle.std.proofs.Common.{map, get_or, suc, zero, slice_index, slice_get, ◌≡◌, ◌≢◌, ℕ, ◌+◌, ◌-◌, ◌*◌, ◌<◌, ◌≤◌, List, [], ◌∷◌, ◌++◌, length, take, drop, codes, Bool, true, false, not, nat_eq, Some, refl, sym, subst, ◌∙◌, ap, arith}
use Rattle.std.specs.Cmp.Lexicographic.{pointwise, same_text, other_text}
use Rattle.std.specs.List.{All, AllByRecursion}
use Rattle.std.proofs.Math.Seq.{take-append-add}
use Rattle.std.proofs.lemmas.List.{append_assoc, append-nil, length-append, length-map, length-take, length-drop, take-append-le, take_rest}
use Rattle.std.proofs.lemmas.Option.{slice_get_within}
use Rattle.command_words.specs.Texts.{Word, Source, source_word, IsSource, Name, name_word, IsName, divided_name, IsNameWord, IsFirstOther}
use Rattle.command_words.specs.Forms.{Request, list, show, check, IsForm, Begins, IsWrongWord}
use Rattle.command_words.proofs.Named.{all_spelled, all_sound}
use Rattle.command_words.proofs.OneReading.{begun, apart_by_name, no_check_lists, no_check_shows, not_mark, heads_are, tails_are}

-- a form begins with each front of words with which one begins
begins_within : (words front behind : List Word) → words ≡ front ++ behind → Begins front → (j : ℕ) → j < length front + 1 → Begins (take j words)
begins_within words front behind is begins j below =
    let within : j ≤ length front = omega arith in
    let here : take j words ≡ take j front = ap (take j) is ∙ take-append-le j front behind within in
    let there : take j (front ++ begins.0) ≡ take j front = take-append-le j front begins.0 within in
    subst Begins (there ∙ sym here) (begun (front ++ begins.0) j begins.1 begins.2)

-- a word is wrong where no form goes on with it
wrong_at : (front : List Word) (word : Word) (more : List Word) → Begins front
    → ((behind : List Word) (request : Request) → IsForm (front ++ word ∷ behind) request → ⊥) → IsWrongWord (front ++ word ∷ more) (length front + 1)
wrong_at front word more begins none = record {
  before = begins_within (front ++ word ∷ more) front (word ∷ more) refl begins;
  there = λ _ b.
      let first : take (length front + 1) (front ++ word ∷ more) ≡ front ++ word ∷ [] = take-append-add front (word ∷ more) 1 in
      let whole : take (length front + 1) (front ++ word ∷ more) ++ b.0 ≡ front ++ word ∷ b.0 = ap (λ t. t ++ b.0) first ∙ append_assoc front (word ∷ []) b.0 in
      let P : List Word → Type 0 = λ t. IsForm t b.1 in
      none b.0 b.1 (subst P whole b.2);
  lacking = λ h. absurd (omega (arith, length-append front (word ∷ more)));
}

-- a word lacks where words that begin a form are none
wrong_after : (front : List Word) → Begins front → ((request : Request) → IsForm front request → ⊥) → IsWrongWord front (length front + 1)
wrong_after front begins none = record {
  before = begins_within front front [] (sym (append-nil front)) begins;
  there = λ h. absurd (omega arith);
  lacking = λ _. (refl, none);
}

-- what holds of the numbers below one
below_one : (P : ℕ → Type 0) → P 0 → (j : ℕ) → j < 1 → P j
below_one P p zero h = p
below_one P p (suc j) h = absurd (omega arith)

-- some source
example : Source
example = record { path = 112 ∷ []; file = 112 ∷ [] }

example_sound : IsSource example
unfolding example
example_sound = record {
  path = record {
    some = λ e. cc;
    plain = λ e. cc;
    no_colon = below_one (λ k. slice_index example.path k ≢ 58) (λ e. cc);
    no_equals = below_one (λ k. slice_index example.path k ≢ 61) (λ e. cc);
  };
  file = record { some = λ e. cc; plain = λ e. cc };
}

-- what begins a form: nothing, the name of a command, its source, and for `show` sources, the mark and words that name
-- names

begins_none : Begins []
begins_none = (codes "list" ∷ source_word example ∷ [], list example, (refl, example_sound))

pub begins_list : Begins (codes "list" ∷ [])
begins_list = (source_word example ∷ [], list example, (refl, example_sound))

begins_listed : (source : Source) → IsSource source → Begins (codes "list" ∷ source_word source ∷ [])
begins_listed source sound = ([], list source, (refl, sound))

some : {X : Type 0} (x : X) (xs : List X) → x ∷ xs ≢ []
some x xs e = cc

begins_shown : (sources : List Source) → AllByRecursion IsSource sources → Begins (codes "show" ∷ map source_word sources)
begins_shown [] sound =
    (source_word example ∷ codes "--" ∷ [], show (example ∷ []) [], (refl, some example [], (example_sound, tt), tt))
begins_shown (source ∷ sources) sound =
    (codes "--" ∷ [], show (source ∷ sources) [], (refl, some source sources, sound, tt))

begins_checked : (sources : List Source) → AllByRecursion IsSource sources → Begins (codes "check" ∷ map source_word sources)
begins_checked [] sound = (source_word example ∷ [], check (example ∷ []), (refl, some example [], (example_sound, tt)))
begins_checked (source ∷ sources) sound =
    ([], check (source ∷ sources), (append-nil (codes "check" ∷ map source_word (source ∷ sources)), some source sources, sound))

begins_named : (sources : List Source) (words : List Word) → sources ≢ [] → AllByRecursion IsSource sources → All IsNameWord words
    → Begins (codes "show" ∷ (map source_word sources ++ codes "--" ∷ words))
begins_named sources words any sound named =
    let spelled : words ++ [] ≡ map name_word (map divided_name words) =
    append-nil words ∙ all_spelled name_word IsName divided_name words named in
    let whole =
    append_assoc (map source_word sources) (codes "--" ∷ words) []
    ∙ ap (λ t. map source_word sources ++ codes "--" ∷ t) spelled in (
      [],
      show sources (map divided_name words),
      (ap (λ t. codes "show" ∷ t) whole, any, sound, all_sound name_word IsName divided_name words named),
    )

-- no form is empty
never_empty : (request : Request) → IsForm [] request → ⊥
never_empty (list source) form = let e = form.0 in cc
never_empty (show source names) form = let e = form.0 in cc
never_empty (check sources) form = let e = form.0 in cc

-- each form begins with the name of its command
named : (name : Word) (more : List Word) (request : Request) → name ≢ codes "list" → name ≢ codes "show" → name ≢ codes "check"
    → IsForm (name ∷ more) request → ⊥
named name more (list source) no_list no_show no_check form = no_list (heads_are _ _ _ _ form.0)
named name more (show source names) no_list no_show no_check form = no_show (heads_are _ _ _ _ form.0)
named name more (check sources) no_list no_show no_check form = no_check (heads_are _ _ _ _ form.0)

-- a source follows the name
sourced : (name word : Word) (more : List Word) (request : Request) → ((source : Source) → IsSource source → word ≢ source_word source) → IsForm (name ∷ word ∷ more) request → ⊥
sourced name word more (list source) differs form = differs source form.1 (let e = form.0 in cc)
sourced name word more (show [] names) differs form = form.1 refl
sourced name word more (show (source ∷ sources) names) differs form =
    differs source form.2.0 (heads_are _ _ _ _ (tails_are _ _ _ _ form.0))
sourced name word more (check []) differs form = form.1 refl
sourced name word more (check (source ∷ sources)) differs form =
    differs source form.2.0 (heads_are _ _ _ _ (tails_are _ _ _ _ form.0))

alone : (name : Word) (request : Request) → IsForm (name ∷ []) request → ⊥
alone name (list source) form = let e = form.0 in cc
alone name (show [] names) form = form.1 refl
alone name (show (source ∷ sources) names) form = let e = tails_are _ _ _ _ form.0 in absurd (some _ _ (sym e))
alone name (check []) form = form.1 refl
alone name (check (source ∷ sources)) form = let e = tails_are _ _ _ _ form.0 in absurd (some _ _ (sym e))

-- nothing follows the source of a list
ended : (word other : Word) (more : List Word) (request : Request) → IsForm (codes "list" ∷ word ∷ other ∷ more) request → ⊥
ended word other more (list source) form = let e = form.0 in cc
ended word other more (show sources names) form = apart_by_name _ _ form.0
ended word other more (check sources) form = no_check_lists _ _ form.0

-- a mark follows sources
ends_unmarked : (sources others : List Source) (behind : List Word) → map source_word sources ≡ map source_word others ++ codes "--" ∷ behind → ⊥
ends_unmarked [] [] behind e = some _ _ (sym e)
ends_unmarked [] (other ∷ others) behind e = some _ _ (sym e)
ends_unmarked (source ∷ sources) [] behind e = not_mark source (heads_are _ _ _ _ e)
ends_unmarked (source ∷ sources) (other ∷ others) behind e = ends_unmarked sources others behind (tails_are _ _ _ _ e)

unmarked : (sources : List Source) (request : Request) → IsForm (codes "show" ∷ map source_word sources) request → ⊥
unmarked sources (list source) form = apart_by_name _ _ (sym form.0)
unmarked sources (show others names) form = ends_unmarked sources others (map name_word names) (tails_are _ _ _ _ form.0)
unmarked sources (check others) form = no_check_shows _ _ form.0

goes_unmarked : (sources others : List Source) (mark : Word) (more behind : List Word)
    → AllByRecursion IsSource others
    → ((source : Source) → IsSource source → mark ≢ source_word source) → mark ≢ codes "--"
    → map source_word sources ++ mark ∷ more ≡ map source_word others ++ codes "--" ∷ behind
    → ⊥
goes_unmarked [] [] mark more behind sound other differs e = differs (heads_are _ _ _ _ e)
goes_unmarked [] (o ∷ others) mark more behind sound other differs e = other o sound.0 (heads_are _ _ _ _ e)
goes_unmarked (source ∷ sources) [] mark more behind sound other differs e = not_mark source (heads_are _ _ _ _ e)
goes_unmarked (source ∷ sources) (o ∷ others) mark more behind sound other differs e =
    goes_unmarked sources others mark more behind sound.1 other differs (tails_are _ _ _ _ e)

marked : (sources : List Source) (mark : Word) (more : List Word) (request : Request)
    → ((source : Source) → IsSource source → mark ≢ source_word source)
    → mark ≢ codes "--"
    → IsForm (codes "show" ∷ (map source_word sources ++ mark ∷ more)) request
    → ⊥
marked sources mark more (list source) other differs form = apart_by_name _ _ (sym form.0)
marked sources mark more (show others names) other differs form =
    goes_unmarked sources others mark more (map name_word names) form.2 other differs (tails_are _ _ _ _ form.0)
marked sources mark more (check others) other differs form = no_check_shows _ _ form.0

-- behind the sources of `check` nothing but a source follows
sources_only : (sources others : List Source) (word : Word) (more : List Word) → AllByRecursion IsSource others
    → ((source : Source) → IsSource source → word ≢ source_word source)
    → map source_word sources ++ word ∷ more ≡ map source_word others
    → ⊥
sources_only [] [] word more sound other e = some _ _ e
sources_only [] (o ∷ others) word more sound other e = other o sound.0 (heads_are _ _ _ _ e)
sources_only (source ∷ sources) [] word more sound other e = some _ _ e
sources_only (source ∷ sources) (o ∷ others) word more sound other e = sources_only sources others word more sound.1 other (tails_are _ _ _ _ e)

followed : (sources : List Source) (word : Word) (more : List Word) (request : Request)
    → ((source : Source) → IsSource source → word ≢ source_word source)
    → IsForm (codes "check" ∷ (map source_word sources ++ word ∷ more)) request
    → ⊥
followed sources word more (list source) other form = no_check_lists _ _ (sym form.0)
followed sources word more (show others names) other form = no_check_shows _ _ (sym form.0)
followed sources word more (check others) other form = sources_only sources others word more form.2 other (tails_are _ _ _ _ form.0)

-- and names only
among : (names : List Name) (front : List Word) (other : Word) (behind : List Word) → ((name : Name) → IsName name → other ≢ name_word name)
    → AllByRecursion IsName names → front ++ other ∷ behind ≡ map name_word names → ⊥
among [] [] other behind differs sound e = cc
among [] (word ∷ front) other behind differs sound e = cc
among (name ∷ names) [] other behind differs sound e = differs name sound.0 (cc)
among (name ∷ names) (word ∷ front) other behind differs sound e = among names front other behind differs sound.1 (cc)

behind_mark : (sources others : List Source) (xs ys : List Word)
    → map source_word sources ++ codes "--" ∷ xs ≡ map source_word others ++ codes "--" ∷ ys
    → xs ≡ ys
behind_mark [] [] xs ys e = tails_are _ _ _ _ e
behind_mark [] (other ∷ others) xs ys e = absurd (not_mark other (sym (heads_are _ _ _ _ e)))
behind_mark (source ∷ sources) [] xs ys e = absurd (not_mark source (heads_are _ _ _ _ e))
behind_mark (source ∷ sources) (other ∷ others) xs ys e = behind_mark sources others xs ys (tails_are _ _ _ _ e)

unnamed : (sources : List Source) (front : List Word) (other : Word) (behind : List Word) (request : Request) → ((name : Name) → IsName name → other ≢ name_word name)
    → IsForm (codes "show" ∷ (map source_word sources ++ codes "--" ∷ (front ++ other ∷ behind))) request → ⊥
unnamed sources front other behind (list source) differs form = apart_by_name _ _ (sym form.0)
unnamed sources front other behind (show others names) differs form =
    among names front other behind differs form.3
    (behind_mark sources others (front ++ other ∷ behind) (map name_word names) (tails_are _ _ _ _ form.0))
unnamed sources front other behind (check others) differs form = no_check_shows _ _ form.0

pub wrong_empty : IsWrongWord [] 1
wrong_empty = wrong_after [] begins_none never_empty

pub wrong_name : (name : Word) (more : List Word) → name ≢ codes "list" → name ≢ codes "show" → name ≢ codes "check" → IsWrongWord (name ∷ more) 1
wrong_name name more no_list no_show no_check = wrong_at [] name more begins_none (λ behind request. named name behind request no_list no_show no_check)

pub wrong_alone : (name : Word) → Begins (name ∷ []) → IsWrongWord (name ∷ []) 2
wrong_alone name begins = wrong_after (name ∷ []) begins (alone name)

pub wrong_source : (name : Word) → Begins (name ∷ []) → (word : Word) (more : List Word) → ((source : Source) → IsSource source → word ≢ source_word source) → IsWrongWord (name ∷ word ∷ more) 2
wrong_source name begins word more differs = wrong_at (name ∷ []) word more begins (λ behind request. sourced name word behind request differs)

pub wrong_more : (source : Source) (other : Word) (more : List Word) → IsSource source → IsWrongWord (codes "list" ∷ source_word source ∷ other ∷ more) 3
wrong_more source other more sound =
    wrong_at (codes "list" ∷ source_word source ∷ []) other more (begins_listed source sound) (λ behind request. ended (source_word source) other behind request)

wrong_followed : (sources : List Source) (word : Word) (more : List Word) → AllByRecursion IsSource sources
    → ((source : Source) → IsSource source → word ≢ source_word source)
    → IsWrongWord (codes "check" ∷ (map source_word sources ++ word ∷ more)) (length sources + 2)
wrong_followed sources word more sound other =
    let number : length (codes "check" ∷ map source_word sources) + 1 ≡ length sources + 2 = omega (arith, length-map sources source_word) in
    subst (IsWrongWord (codes "check" ∷ (map source_word sources ++ word ∷ more))) number
    (wrong_at (codes "check" ∷ map source_word sources) word more (begins_checked sources sound)
    (λ behind request. followed sources word behind request other))

-- the number of the word behind so many sources
number_behind : (sources : List Source) → length (codes "show" ∷ map source_word sources) + 1 ≡ length sources + 2
number_behind sources = omega (arith, length-map sources source_word)

pub wrong_unmarked : (sources : List Source) → AllByRecursion IsSource sources
    → IsWrongWord (codes "show" ∷ map source_word sources) (length sources + 2)
wrong_unmarked sources sound =
    subst (IsWrongWord (codes "show" ∷ map source_word sources)) (number_behind sources)
    (wrong_after (codes "show" ∷ map source_word sources) (begins_shown sources sound) (unmarked sources))

pub wrong_mark : (sources : List Source) (mark : Word) (more : List Word) → AllByRecursion IsSource sources
    → ((source : Source) → IsSource source → mark ≢ source_word source)
    → mark ≢ codes "--"
    → IsWrongWord (codes "show" ∷ (map source_word sources ++ mark ∷ more)) (length sources + 2)
wrong_mark sources mark more sound other differs =
    subst (IsWrongWord (codes "show" ∷ (map source_word sources ++ mark ∷ more))) (number_behind sources)
    (wrong_at (codes "show" ∷ map source_word sources) mark more (begins_shown sources sound)
    (λ behind request. marked sources mark behind request other differs))

-- a list is what stands before an item, the item and what follows
split_there : (words : List Word) (k : ℕ) (word : Word) → slice_get words k ≡ Some word → (words ≡ take k words ++ word ∷ drop (suc k) words) × (length (take k words) ≡ k)
split_there [] k word is = cc
split_there (first ∷ words) zero word is = (let e : first ≡ word = cc in cc, refl)
split_there (first ∷ words) (suc k) word is =
    let rest = split_there words k word is in
    (ap (λ t. first ∷ t) rest.0, omega (arith, rest.1))

pub wrong_named : (sources : List Source) (words : List Word) (k : ℕ) → sources ≢ [] → AllByRecursion IsSource sources → IsFirstOther words k
    → IsWrongWord (codes "show" ∷ (map source_word sources ++ codes "--" ∷ words)) (length sources + 2 + 1 + k)
wrong_named sources words k any sound first =
    let parts = split_there words k first.word first.there in
    let known = map source_word sources in
    let front : List Word = codes "show" ∷ (known ++ codes "--" ∷ take k words) in
    let wrong = wrong_at front first.word (drop (suc k) words) (begins_named sources (take k words) any sound first.names)
    (λ behind request form.
    unnamed sources (take k words) first.word behind request first.other
    (subst (λ t. IsForm (codes "show" ∷ t) request) (append_assoc known (codes "--" ∷ take k words) (first.word ∷ behind)) form)) in
    let number : length front + 1 ≡ length sources + 2 + 1 + k =
    omega (arith, parts.1, length-append known (codes "--" ∷ take k words), length-map sources source_word) in
    let whole : front ++ first.word ∷ drop (suc k) words ≡ codes "show" ∷ (known ++ codes "--" ∷ words) =
    ap (λ t. codes "show" ∷ t) (append_assoc known (codes "--" ∷ take k words) (first.word ∷ drop (suc k) words)
    ∙ ap (λ t. known ++ codes "--" ∷ t) (sym parts.0)) in
    subst (λ t. IsWrongWord t (length sources + 2 + 1 + k)) whole (subst (IsWrongWord (front ++ first.word ∷ drop (suc k) words)) number wrong)

-- what stands behind the first of some words
abbrev behind : {X : Type 0} → List X → List X
behind xs = take (length xs - 1) (drop 1 xs)

-- The same for words that are seen by their bytes.
module _ {X : Type 0} (text : X → Word) where
  nothing : (words : List X) → length words < 1 → map text words ≡ []
  nothing [] h = refl
  nothing (word ∷ words) h = absurd (omega arith)

  pub headed : (words : List X) (word : X) → 1 ≤ length words → word ≡ get_or words 0 word → map text words ≡ text word ∷ map text (behind words)
  headed [] word h is = absurd (omega arith)
  headed (first ∷ words) word h is = λ i. text (sym is i) ∷ map text (sym (take_rest (first ∷ words) 1) i)

  pub wrong_in_none : (words : List X) → length words < 1 → IsWrongWord (map text words) 1
  wrong_in_none words h = subst (λ t. IsWrongWord t 1) (sym (nothing words h)) wrong_empty

  pub wrong_in_name : (words : List X) (word : X) → 1 ≤ length words → word ≡ get_or words 0 word → text word ≢ codes "list" → text word ≢ codes "show" → text word ≢ codes "check" → IsWrongWord (map text words) 1
  wrong_in_name words word h is no_list no_show no_check = subst (λ t. IsWrongWord t 1) (sym (headed words word h is)) (wrong_name (text word) _ no_list no_show no_check)

  pub wrong_in_alone : (name : Word) → Begins (name ∷ []) → (words : List X) → length words < 1 → IsWrongWord (name ∷ map text words) 2
  wrong_in_alone name begins words h = subst (λ t. IsWrongWord (name ∷ t) 2) (sym (nothing words h)) (wrong_alone name begins)

  pub wrong_in_source : (name : Word) → Begins (name ∷ []) → (words : List X) (word : X) → 1 ≤ length words → word ≡ get_or words 0 word
      → ((source : Source) → IsSource source → text word ≢ source_word source) → IsWrongWord (name ∷ map text words) 2
  wrong_in_source name begins words word h is differs =
      subst (λ t. IsWrongWord (name ∷ t) 2) (sym (headed words word h is)) (wrong_source name begins (text word) _ differs)

  pub wrong_in_more : (words : List X) (word : X) (source : Source) → 1 < length words → word ≡ get_or words 0 word
      → text word ≡ source_word source → IsSource source → IsWrongWord (codes "list" ∷ map text words) 3
  wrong_in_more [] word source h is spelled sound = absurd (omega arith)
  wrong_in_more (first ∷ []) word source h is spelled sound = absurd (omega arith)
  wrong_in_more (first ∷ other ∷ words) word source h is spelled sound =
      let first_is : text first ≡ source_word source = sym (ap text is) ∙ spelled in
      rw first_is (wrong_more source (text other) (map text words) sound)

  -- ---- the words of `show` behind its name, which begin with sources

  module _ (words rest : List X) (sources : List Source) (parted : map text words ≡ map source_word sources ++ map text rest) (sound : AllByRecursion IsSource sources) where
    counted : length words ≡ length sources + length rest
    counted =
        omega (arith, length-map words text, ap (λ t. length t) parted, length-append (map source_word sources) (map text rest), length-map sources source_word, length-map rest text)

    -- the number of a wrong word is small
    pub few_sources : length words * 24 < 9223372036854775808 → length sources + 2 < 18446744073709551616
    few_sources few = omega (arith, few, counted)

    pub few_words : (k : ℕ) → IsFirstOther (map text (behind rest)) k → length words * 24 < 9223372036854775808
        → length sources + 2 + 1 + k < 18446744073709551616
    few_words k first few =
        let within : k < length (map text (behind rest)) = slice_get_within _ k first.word first.there in
        omega (arith, within, few, counted, length-map (behind rest) text, length-take (length rest - 1) (drop 1 rest), length-drop 1 rest)

    pub wrong_in_unmarked : length rest < 1 → IsWrongWord (codes "show" ∷ map text words) (length sources + 2)
    wrong_in_unmarked none =
        let all : map text words ≡ map source_word sources =
        parted ∙ ap (λ t. map source_word sources ++ t) (nothing rest none) ∙ append-nil (map source_word sources) in
        subst (λ t. IsWrongWord (codes "show" ∷ t) (length sources + 2)) (sym all) (wrong_unmarked sources sound)

    -- the words of `check`
    ends_there : length rest < 1 → map text words ≡ map source_word sources
    ends_there none = parted ∙ ap (λ t. map source_word sources ++ t) (nothing rest none) ∙ append-nil (map source_word sources)

    pub wrong_in_followed : 1 ≤ length rest → ((word : Word) (more : List Word) → map text rest ≡ word ∷ more → (source : Source) → IsSource source → word ≢ source_word source)
        → IsWrongWord (codes "check" ∷ map text words) (length sources + 2)
    wrong_in_followed some other = go rest some parted other
      where
        go : (rest : List X) → 1 ≤ length rest → map text words ≡ map source_word sources ++ map text rest
            → ((word : Word) (more : List Word) → map text rest ≡ word ∷ more → (source : Source) → IsSource source → word ≢ source_word source)
            → IsWrongWord (codes "check" ∷ map text words) (length sources + 2)
        go [] some is other = absurd (omega arith)
        go (x ∷ xs) some is other =
            subst (λ t. IsWrongWord (codes "check" ∷ t) (length sources + 2)) (sym is)
            (wrong_followed sources (text x) (map text xs) sound (other (text x) (map text xs) refl))

    pub wrong_in_unchecked : length sources ≡ 0 → ((word : Word) (more : List Word) → map text rest ≡ word ∷ more → (source : Source) → IsSource source → word ≢ source_word source)
        → IsWrongWord (codes "check" ∷ map text words) (length sources + 2)
    wrong_in_unchecked bare other =
        subst (λ n. IsWrongWord (codes "check" ∷ map text words) (n + 2)) (sym bare)
        (subst (λ t. IsWrongWord (codes "check" ∷ t) 2) (sym (parted ∙ ap (λ t. t ++ map text rest) (no_words sources bare))) (by (map text rest) other))
      where
        no_words : (sources : List Source) → length sources ≡ 0 → map source_word sources ≡ []
        no_words [] e = refl
        no_words (source ∷ sources) e = absurd (omega (arith, e))

        by : (rest : List Word) → ((word : Word) (more : List Word) → rest ≡ word ∷ more → (source : Source) → IsSource source → word ≢ source_word source)
            → IsWrongWord (codes "check" ∷ rest) 2
        by [] other = wrong_alone (codes "check") (begins_checked [] tt)
        by (word ∷ more) other = wrong_source (codes "check") (begins_checked [] tt) word more (other word more refl)

    pub form_in_checked : length rest < 1 → sources ≢ [] → IsForm (codes "check" ∷ map text words) (check sources)
    form_in_checked none any = (ap (λ t. codes "check" ∷ t) (ends_there none), any, sound)

    module _ (mark : X) (there : 1 ≤ length rest) (is_mark : mark ≡ get_or rest 0 mark) where
      marked_are : map text words ≡ map source_word sources ++ text mark ∷ map text (behind rest)
      marked_are = parted ∙ ap (λ t. map source_word sources ++ t) (headed rest mark there is_mark)

      -- a word that is no source and no mark, or stands where the first source should
      module _ (other : (word : Word) (more : List Word) → map text rest ≡ word ∷ more → (source : Source) → IsSource source → word ≢ source_word source) where
        other_mark : (source : Source) → IsSource source → text mark ≢ source_word source
        other_mark = other (text mark) (map text (behind rest)) (headed rest mark there is_mark)

        pub wrong_in_mark : text mark ≢ codes "--" → IsWrongWord (codes "show" ∷ map text words) (length sources + 2)
        wrong_in_mark differs =
            subst (λ t. IsWrongWord (codes "show" ∷ t) (length sources + 2)) (sym marked_are)
            (wrong_mark sources (text mark) (map text (behind rest)) sound other_mark differs)

        pub wrong_in_first : length sources ≡ 0 → IsWrongWord (codes "show" ∷ map text words) (length sources + 2)
        wrong_in_first none =
            let bare : sources ≡ [] = empty sources none in
            let whole : map text words ≡ text mark ∷ map text (behind rest) =
            marked_are ∙ ap (λ (ss : List Source). map source_word ss ++ text mark ∷ map text (behind rest)) bare in
            subst (λ n. IsWrongWord (codes "show" ∷ map text words) (n + 2)) (sym none)
            (subst (λ t. IsWrongWord (codes "show" ∷ t) 2) (sym whole)
            (wrong_source (codes "show") (begins_shown [] tt) (text mark) (map text (behind rest)) other_mark))
          where
            empty : (sources : List Source) → length sources ≡ 0 → sources ≡ []
            empty [] e = refl
            empty (source ∷ sources) e = absurd (omega (arith, e))

      module _ (same : text mark ≡ codes "--") (any : sources ≢ []) where
        whole_is : map text words ≡ map source_word sources ++ codes "--" ∷ map text (behind rest)
        whole_is = marked_are ∙ ap (λ m. map source_word sources ++ m ∷ map text (behind rest)) same

        pub wrong_in_named : (k : ℕ) → IsFirstOther (map text (behind rest)) k
            → IsWrongWord (codes "show" ∷ map text words) (length sources + 2 + 1 + k)
        wrong_in_named k first =
            subst (λ t. IsWrongWord (codes "show" ∷ t) (length sources + 2 + 1 + k)) (sym whole_is)
            (wrong_named sources _ k any sound first)

        pub form_in_named : (names : List Name) → map text (behind rest) ≡ map name_word names → AllByRecursion IsName names
            → IsForm (codes "show" ∷ map text words) (show sources names)
        form_in_named names spelled_names sound_names = (
          ap (λ t. codes "show" ∷ t) (whole_is ∙ ap (λ t. map source_word sources ++ codes "--" ∷ t) spelled_names),
          any,
          sound,
          sound_names,
        )

-- some sources, where their number isn't zero
pub any_of : (sources : List Source) (n : ℕ) → n ≡ length sources → n ≢ 0 → sources ≢ []
any_of sources n counted some e = some (counted ∙ ap (λ ss. length ss) e)

-- what the test of the mark has told
pub test_false : (told : Bool) (word other : Word) → told ≡ not (pointwise nat_eq word other) → told ≡ false → word ≡ other
test_false told word other is fails = same_text word other (not_false (pointwise nat_eq word other) (sym is ∙ fails))
  where
    not_false : (b : Bool) → not b ≡ false → true ≡ b
    not_false true e = refl
    not_false false e = cc

pub test_true : (told : Bool) (word other : Word) → told ≡ not (pointwise nat_eq word other) → told ≡ true → word ≢ other
test_true told word other is passes = other_text word other (not_true (pointwise nat_eq word other) (sym is ∙ passes))
  where
    not_true : (b : Bool) → not b ≡ true → false ≡ b
    not_true true e = cc
    not_true false e = refl
