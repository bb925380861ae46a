-- What words say of the names and the sources that they name.
use Rattle.std.proofs.Common.{◌≡◌, ◌≢◌, ℕ, zero, suc, ◌+◌, ◌<◌, ◌≤◌, List, [], ◌∷◌, ◌++◌, length, take, drop, map, get_or, slice_get, Option, None, Some, true, false, is_some, option_map, IfSome, IfNone, IsSome, refl, sym, ap, subst, ◌∙◌, ◌==◌, Bor, lit<, arith}
use Rattle.std.specs.List.{All, AllByRecursion, position_or_len, before_first, after_first}
use Rattle.std.proofs.Math.ListN.{get_or-append}
use Rattle.std.proofs.Math.Seq.{get_or-append_seam, drop-append-add}
use Rattle.std.proofs.lemmas.Bool.{ne_eqb, eq-eqb}
use Rattle.std.proofs.lemmas.List.{take_at, take_all, length-append, take-map, drop-map, take-append-drop}
use Rattle.std.proofs.lemmas.List.Sums.{position_or_len_is}
use Rattle.std.proofs.lemmas.List.Elements.{All-head, All-tail, All-get_or, All-more}
use Rattle.std.proofs.lemmas.Option.{slice_get-map, slice_get_read, slice_get_within, get_or_from_slice_get}
use Rattle.std.proofs.lemmas.Str.Pattern.{IsSplitOnceResult, split_after}
use Rattle.command_words.specs.Texts.{Word, Lacks, Source, source_word, IsSource, divided_source, IsSourceWord}
use Rattle.command_words.specs.Texts.{Name, name_word, IsName, divided_name, Spells, IsNameWord, IsFirstOther, AreLeading}

-- where nothing divides a word, it names no name
pub undivided_name : (word : List ℕ) → IsSplitOnceResult 58 word None → (name : Name) → IsName name → word ≢ name_word name
undivided_name word none name sound is = split_after 58 word name.path name.name None none (lit< tt) is sound.path.no_colon

-- a word that names a name is divided into its path and its name
pub parted_name : (word : List ℕ) (path text : Bor (List ℕ)) → IsSplitOnceResult 58 word (Some (path, text))
    → (name : Name) → IsName name → word ≡ name_word name → (path.now ≡ name.path) × (text.now ≡ name.name)
parted_name word path text some name sound is = split_after 58 word name.path name.name (Some (path, text)) some (lit< tt) is sound.path.no_colon

-- the first such sign is the one behind a path
first_sign : (sign : ℕ) (path text : List ℕ) → Lacks sign path → position_or_len (λ b. b == sign) (path ++ sign ∷ text) ≡ length path
first_sign sign path text lacks =
    position_or_len_is (λ b. b == sign) (path ++ sign ∷ text) (length path) 0 (omega (arith, length-append path (sign ∷ text)))
    (λ k below. ne_eqb _ sign (λ is. lacks k below (sym (get_or-append path (sign ∷ text) 0 k below) ∙ is)))
    (λ _. eq-eqb _ sign (get_or-append_seam path sign text 0))

before_sign : (sign : ℕ) (path text : List ℕ) → Lacks sign path → before_first (λ b. b == sign) (path ++ sign ∷ text) ≡ path
before_sign sign path text lacks =
    ap (λ n. take n (path ++ sign ∷ text)) (first_sign sign path text lacks) ∙ take_at path (sign ∷ text) (length path) refl

after_sign : (sign : ℕ) (path text : List ℕ) → Lacks sign path → after_first (λ b. b == sign) (path ++ sign ∷ text) ≡ text
after_sign sign path text lacks =
    ap (λ n. drop (n + 1) (path ++ sign ∷ text)) (first_sign sign path text lacks) ∙ drop-append-add path (sign ∷ text) 1

-- the word of a name is divided into that name, and the word of a source into that source
pub name_again : (name : Name) → IsName name → divided_name (name_word name) ≡ name
name_again name sound =
    let front = before_sign 58 name.path name.name sound.path.no_colon in
    let back = after_sign 58 name.path name.name sound.path.no_colon in
    λ i. record { path = front i; name = back i }

pub source_again : (source : Source) → IsSource source → divided_source (source_word source) ≡ source
source_again source sound =
    let front = before_sign 61 source.path source.file sound.path.no_equals in
    let back = after_sign 61 source.path source.file sound.path.no_equals in
    λ i. record { path = front i; file = back i }

-- ---- whatever it is that words spell

module _ {N : Type 0} (spell : N → Word) (Is : N → Type 0) (divide : Word → N) where
  -- words that all spell something spell those that they are divided into
  pub all_spelled : (words : List Word) → All (Spells spell Is divide) words → words ≡ map spell (map divide words)
  all_spelled [] named = refl
  all_spelled (word ∷ words) named =
      let first = (All-head (Spells spell Is divide) word words named).spelled in
      let others = all_spelled words (All-tail (Spells spell Is divide) word words named) in
      λ i. first i ∷ others i

  pub all_sound : (words : List Word) → All (Spells spell Is divide) words → AllByRecursion Is (map divide words)
  all_sound [] named = tt
  all_sound (word ∷ words) named =
      ((All-head (Spells spell Is divide) word words named).sound, all_sound words (All-tail (Spells spell Is divide) word words named))

  -- one more of the first words spells something
  pub spells_more : (words : List Word) (k : ℕ) (word : Word) → slice_get words k ≡ Some word → Spells spell Is divide word
      → All (Spells spell Is divide) (take k words)
      → All (Spells spell Is divide) (take (k + 1) words)
  spells_more words k word is named before =
      All-more (Spells spell Is divide) words k word (slice_get_within words k word is) before
      (subst (Spells spell Is divide) (sym (get_or_from_slice_get words k word word is)) named)

  pub all_spell : (words : List Word) (k : ℕ) → length words ≤ k → All (Spells spell Is divide) (take k words) → All (Spells spell Is divide) words
  all_spell words k all named = subst (All (Spells spell Is divide)) (take_all k words all) named

  -- what the reading of a word says of it
  module _ (again : (n : N) → Is n → divide (spell n) ≡ n) {R : Type 0} (of : R → N) where
    divided_is : (word : Word) (n : N) → word ≡ spell n → Is n → divide word ≡ n
    divided_is word n is sound = ap divide is ∙ again n sound

    spells_one : (word : Word) (n : N) → word ≡ spell n → Is n → Spells spell Is divide word
    spells_one word n is sound =
        let same = divided_is word n is sound in
        record { spelled = is ∙ ap spell (sym same); sound = subst Is (sym same) sound }

    pub read_one : (word : Word) (read : Option R) → is_some read ≡ true → IfSome read (λ r. word ≡ spell (of r))
        → IfSome read (λ r. Is (of r))
        → Spells spell Is divide word
    read_one word None e spelled sound = cc
    read_one word (Some r) e spelled sound = spells_one word (of r) spelled sound

    -- What is read from a word that stands among words that all spell something.
    module _ (words : List Word) (k : ℕ) (word : Word) (is : slice_get words k ≡ Some word) (named : All (Spells spell Is divide) words) where
      spells_there : Spells spell Is divide word
      spells_there =
          subst (Spells spell Is divide) (get_or_from_slice_get words k word word is)
          (All-get_or (Spells spell Is divide) words k word (slice_get_within words k word is) named)

      pub got : (read : Option R) → IfSome read (λ r. word ≡ spell (of r)) → IfSome read (λ r. Is (of r))
          → IfNone read ((n : N) → Is n → word ≢ spell n)
          → option_map of read ≡ slice_get (map divide words) k
      got None spelled sound none = absurd (none (divide word) spells_there.sound spells_there.spelled)
      got (Some r) spelled sound none =
          sym (slice_get-map divide words k ∙ ap (option_map divide) is ∙ ap Some (divided_is word (of r) spelled sound))

      pub got_one : (read : Option R) → IfNone read ((n : N) → Is n → word ≢ spell n) → IsSome read
      got_one None none = absurd (none (divide word) spells_there.sound spells_there.spelled)
      got_one (Some r) none = refl

  -- where nothing is read from a word, it spells nothing
  pub read_none : (word : Word) {R : Type 0} (read : Option R) → is_some read ≡ false → IfNone read ((n : N) → Is n → word ≢ spell n)
      → (n : N) → Is n → word ≢ spell n
  read_none word None e none = none
  read_none word (Some r) e none = cc

-- where a word stands, its text stands among their texts
pub text_there : {X : Type 0} (text : X → Word) (words : List X) (k : ℕ) (word : X) → k < length words → word ≡ get_or words k word → slice_get (map text words) k ≡ Some (text word)
text_there text words k word below is = slice_get-map text words k ∙ ap (option_map text) (slice_get_read words (length words) k word refl below is)

pub first_other : (words : List Word) (k : ℕ) (word : Word) → slice_get words k ≡ Some word → All IsNameWord (take k words)
    → ((name : Name) → IsName name → word ≢ name_word name) → IsFirstOther words k
first_other words k word is named other = record { word = word; there = is; names = named; other = other }

-- the words before one that names no source
pub leads_to : (words : List Word) (k : ℕ) (word : Word) → slice_get words k ≡ Some word → All IsSourceWord (take k words)
    → ((source : Source) → IsSource source → word ≢ source_word source)
    → AreLeading words k
leads_to words k word is named other = record {
  within = let below = slice_get_within words k word is in omega arith;
  sources = named;
  other = λ found there. let same : word ≡ found = one (sym is ∙ there) in subst (λ w. (source : Source) → IsSource source → w ≢ source_word source) same other;
}
  where
    one : {x y : Word} → ◌≡◌ {A = Option Word} (Some x) (Some y) → x ≡ y
    one e = cc

pub all_lead : (words : List Word) (k count : ℕ) → count ≡ length words → length words ≤ k → All IsSourceWord (take k words) → AreLeading words count
all_lead words k count is all named = record {
  within = omega (arith, is);
  sources =
      subst (All IsSourceWord) (take_all k words all ∙ sym (take_all count words (omega (arith, is)))) named;
  other = λ word there. let below = slice_get_within words count word there in absurd (omega (arith, is));
}

-- ---- words that begin with such as name sources

module _ {X : Type 0} (text : X → Word) (words front back : List X) (count : ℕ) (is_front : front ≡ take count words) (is_back : back ≡ drop count words) where
  front_is : map text front ≡ take count (map text words)
  front_is = ap (map text) is_front ∙ sym (take-map text count words)

  back_is : map text back ≡ drop count (map text words)
  back_is = ap (map text) is_back ∙ sym (drop-map text count words)

  pub leading_sources : AreLeading (map text words) count → All IsSourceWord (map text front)
  leading_sources are = subst (All IsSourceWord) (sym front_is) are.sources

  pub leading_parted : AreLeading (map text words) count
      → map text words ≡ map source_word (map divided_source (map text front)) ++ map text back
  leading_parted are =
      sym (take-append-drop count (map text words))
      ∙ (λ i. sym front_is i ++ sym back_is i)
      ∙ ap (λ t. t ++ map text back) (all_spelled source_word IsSource divided_source (map text front) (leading_sources are))

  pub leading_other : AreLeading (map text words) count → (word : Word) (more : List Word) → map text back ≡ word ∷ more
      → (source : Source) → IsSource source → word ≢ source_word source
  leading_other are word more is =
      are.other word (next (map text words) count (sym back_is ∙ is))
    where
      next : (ws : List Word) (n : ℕ) → drop n ws ≡ word ∷ more → slice_get ws n ≡ Some word
      next [] zero e = cc
      next [] (suc n) e = cc
      next (w ∷ ws) zero e = cc
      next (w ∷ ws) (suc n) e = next ws n e

-- a name that isn't empty passes the test of one
pub some_passes : (text : List ℕ) → text ≢ [] → (length text == 0) ≡ false
some_passes [] some = absurd (some refl)
some_passes (c ∷ text) some = ne_eqb _ 0 (λ e. omega arith)
