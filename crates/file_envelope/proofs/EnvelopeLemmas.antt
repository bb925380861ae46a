-- The bytes of a file have the envelope of their parts.
use Rattle.std.proofs.Common.{◌≡◌, ℕ, ◌+◌, ◌≤◌, ◌<◌, ◌^◌, ◌/◌, ◌%◌, Bool, true, false, cond, List, [], ◌∷◌, ◌++◌, length, map, take, drop, refl, sym, ap, subst, ◌∙◌, arith, length-append, append_assoc, append-nil, inr}
use Rattle.std.specs.Prelude.{nat_lt}
use Rattle.std.specs.List.{flat_map, Contains, AllByRecursion}
use Rattle.std.proofs.Math.Seq.{take-append_seam, drop-append_seam, drop-append-add}
use Rattle.wire_bytes.specs.Reading.{InOrder}
use Rattle.wire_bytes.specs.Uvarint.{BeginsWith}
use Rattle.wire_bytes.specs.Order.{Rise}
use Rattle.wire_bytes.specs.Section.{groups_of, spelling_of, section_of}
use Rattle.name_index.specs.FullFile.{Entry, Package, content}
use Rattle.name_index.specs.Envelope.{TextOffset, IsEntry, IsPackage, Envelope}
use Rattle.file_envelope.specs.FileBytes.{text_number, package_texts, index_texts, entry_bytes, package_bytes, index_bytes, header, full_bytes, file_of, MayFollow}
use Rattle.file_envelope.proofs.Known.{Stands, known_stands, number_front}

all_left : {X : Type 0} (P : X → Type 0) (xs ys : List X) → AllByRecursion P (xs ++ ys) → AllByRecursion P xs
all_left P [] ys all = tt
all_left P (x ∷ xs) ys all = (all.0, all_left P xs ys all.1)

all_right : {X : Type 0} (P : X → Type 0) (xs ys : List X) → AllByRecursion P (xs ++ ys) → AllByRecursion P ys
all_right P [] ys all = all
all_right P (x ∷ xs) ys all = all_right P xs ys all.1

-- things that each stand in front of what follows them
in_turn : {X : Type 0} (IsThere : List ℕ → X → List ℕ → Type 0) (bytes_of : X → List ℕ) (P : X → Type 0) → ((x : X) (rest : List ℕ) → P x → IsThere (bytes_of x ++ rest) x rest)
    → (xs : List X) (rest : List ℕ) → AllByRecursion P xs → InOrder IsThere (flat_map bytes_of xs ++ rest) xs rest
in_turn IsThere bytes_of P each [] rest all = refl
in_turn IsThere bytes_of P each (x ∷ xs) rest all =
    let next = flat_map bytes_of xs ++ rest in
    (next, subst (λ (bs : List ℕ). IsThere bs x next) (sym (append_assoc (bytes_of x) (flat_map bytes_of xs) rest)) (each x next all.0), in_turn IsThere bytes_of P each xs rest all.1)

-- a number before others
before_others : (n : ℕ) (others rest : List ℕ) → n < 2 ^ 64 → BeginsWith ((spelling_of n ++ others) ++ rest) n (others ++ rest)
before_others n others rest small = subst (λ (bs : List ℕ). BeginsWith bs n (others ++ rest)) (sym (append_assoc (spelling_of n) others rest)) (number_front n (others ++ rest) small)

-- each is at least one byte long
pub spelling_some : (n : ℕ) → 0 < length (spelling_of n)
unfolding spelling_of
spelling_some n = by (nat_lt n 128) (n % 128 + 128) (groups_of 8 (n / 128))
  where
    by : (b : Bool) (x : ℕ) (xs : List ℕ) → 0 < length (cond b (n ∷ []) (x ∷ xs))
    by true x xs = omega arith
    by false x xs = omega arith

front_some : (n : ℕ) (rest : List ℕ) → 0 < length (spelling_of n ++ rest)
front_some n rest = omega (arith, length-append (spelling_of n) rest, spelling_some n)

pub counted : {X : Type 0} (bytes_of : X → List ℕ) → ((x : X) → 0 < length (bytes_of x)) → (xs : List X) → length xs ≤ length (flat_map bytes_of xs)
counted bytes_of some [] = omega arith
counted bytes_of some (x ∷ xs) = omega (arith, some x, counted bytes_of some xs, length-append (bytes_of x) (flat_map bytes_of xs))

-- ---- the index, in a file whose string section is that of these texts

module _ (texts : List (List ℕ)) (size : ℕ) (fits : length (section_of texts) < 2 ^ 64) where
  abbrev Known : List ℕ → Type 0
  Known = Contains texts

  text_front : (text others rest : List ℕ) → Known text → TextOffset (section_of texts) ((spelling_of (text_number texts text) ++ others) ++ rest) text (others ++ rest)
  text_front text others rest known =
      let there : Stands texts text = known_stands texts text fits known in
      (text_number texts text, before_others (text_number texts text) others rest there.small, there.there)

  abbrev EntryFits : Entry → Type 0
  EntryFits e = Known e.name × (e.offset < size) × (e.offset < 2 ^ 64)

  entry_front : (e : Entry) (rest : List ℕ) → EntryFits e → IsEntry (section_of texts) size (entry_bytes texts e ++ rest) e rest
  entry_front e rest fit = (spelling_of e.offset ++ rest, text_front e.name (spelling_of e.offset) rest fit.0, number_front e.offset rest fit.2, fit.1)

  abbrev PackageFits : Package → Type 0
  PackageFits p = Known p.path × Known p.name × AllByRecursion EntryFits p.entries × (length p.entries < 2 ^ 64) × Rise (map (λ e. e.name) p.entries)

  package_front : (p : Package) (rest : List ℕ) → PackageFits p → IsPackage (section_of texts) size (package_bytes texts p ++ rest) p rest
  package_front p rest fit =
      let entries = flat_map (entry_bytes texts) p.entries in
      let behind_count = spelling_of (length p.entries) ++ entries in
      let behind_name = spelling_of 0 ++ behind_count in
      record {
        at_name = (spelling_of (text_number texts p.name) ++ behind_name) ++ rest;
        at_height = behind_name ++ rest;
        at_count = behind_count ++ rest;
        at_entries = entries ++ rest;
        height = 0;
        path = text_front p.path (spelling_of (text_number texts p.name) ++ behind_name) rest fit.0;
        name = text_front p.name behind_name rest fit.1;
        any_height = before_others 0 behind_count rest (omega arith);
        count = before_others (length p.entries) entries rest fit.3;
        entries = in_turn (IsEntry (section_of texts) size) (entry_bytes texts) EntryFits entry_front p.entries rest fit.2;
        names_rise = fit.4;
      }

-- ---- the parts

module _ (own : List ℕ) (texts : List (List ℕ)) (body : List ℕ) (packages : List Package) where
  abbrev behind : List ℕ
  behind = body ++ index_bytes texts packages

  abbrev sections : List ℕ
  sections = section_of texts ++ behind

  pub strings_are : content (full_bytes texts body packages) (file_of own texts body packages).strings ≡ section_of texts
  strings_are =
      ap (take (length (section_of texts))) (drop-append_seam (header texts body) sections)
      ∙ take-append_seam (section_of texts) behind

  behind_strings : drop (length (header texts body) + length (section_of texts)) (full_bytes texts body packages) ≡ behind
  behind_strings = drop-append-add (header texts body) sections (length (section_of texts)) ∙ drop-append_seam (section_of texts) behind

  pub body_is : content (full_bytes texts body packages) (file_of own texts body packages).body ≡ body
  body_is = ap (take (length body)) behind_strings ∙ take-append_seam body (index_bytes texts packages)

  behind_body : drop ((length (header texts body) + length (section_of texts)) + length body) (full_bytes texts body packages) ≡ index_bytes texts packages
  behind_body =
      ap (λ (n : ℕ). drop n (full_bytes texts body packages)) (omega arith)
      ∙ drop-append-add (header texts body) sections (length (section_of texts) + length body)
      ∙ drop-append-add (section_of texts) behind (length body)
      ∙ drop-append_seam body (index_bytes texts packages)

-- ---- the sizes

module _ (own : List ℕ) (texts : List (List ℕ)) (body : List ℕ) (packages : List Package) (may : MayFollow own texts body packages) where
  whole_size : length (full_bytes texts body packages) ≡ length (header texts body) + (length (section_of texts) + (length body + length (index_bytes texts packages)))
  whole_size =
      length-append (header texts body) (section_of texts ++ (body ++ index_bytes texts packages))
      ∙ ap (λ (n : ℕ). length (header texts body) + n) (length-append (section_of texts) (body ++ index_bytes texts packages) ∙ ap (λ (n : ℕ). length (section_of texts) + n) (length-append body (index_bytes texts packages)))

  strings_small : length (section_of texts) < 2 ^ 64
  strings_small = omega (arith, whole_size, may.short)

  body_small : length body < 2 ^ 64
  body_small = omega (arith, whole_size, may.short)

  index_small : length (index_bytes texts packages) < 2 ^ 64
  index_small = omega (arith, whole_size, may.short)

  package_some : (p : Package) → 0 < length (package_bytes texts p)
  package_some p = front_some (text_number texts p.path) _

  entry_some : (e : Entry) → 0 < length (entry_bytes texts e)
  entry_some e = front_some (text_number texts e.name) (spelling_of e.offset)

  index_size : length (index_bytes texts packages) ≡ length (spelling_of (length packages)) + length (flat_map (package_bytes texts) packages)
  index_size = length-append (spelling_of (length packages)) (flat_map (package_bytes texts) packages)

  few_packages : length packages < 2 ^ 64
  few_packages = omega (arith, index_small, index_size, counted (package_bytes texts) package_some packages)

  entries_behind : (p : Package) → length p.entries ≤ length (package_bytes texts p)
  entries_behind p =
      omega (
        arith,
        counted (entry_bytes texts) entry_some p.entries,
        length-append (spelling_of (length p.entries)) (flat_map (entry_bytes texts) p.entries),
        length-append (spelling_of 0) (spelling_of (length p.entries) ++ flat_map (entry_bytes texts) p.entries),
        length-append (spelling_of (text_number texts p.name)) (spelling_of 0 ++ (spelling_of (length p.entries) ++ flat_map (entry_bytes texts) p.entries)),
        length-append (spelling_of (text_number texts p.path)) (spelling_of (text_number texts p.name) ++ (spelling_of 0 ++ (spelling_of (length p.entries) ++ flat_map (entry_bytes texts) p.entries))),
      )

  entries_fit : (es : List Entry) → AllByRecursion (λ e. e.offset < length body) es → AllByRecursion (Contains texts) (map (λ e. e.name) es) → AllByRecursion (EntryFits texts (length body) strings_small) es
  entries_fit [] offsets known = tt
  entries_fit (e ∷ es) offsets known = ((known.0, offsets.0, omega (arith, offsets.0, body_small)), entries_fit es offsets.1 known.1)

  packages_fit : (ps : List Package) → length (flat_map (package_bytes texts) ps) < 2 ^ 64 → AllByRecursion (λ p. Rise (map (λ e. e.name) p.entries)) ps
      → AllByRecursion (λ p. AllByRecursion (λ e. e.offset < length body) p.entries) ps → AllByRecursion (Contains texts) (index_texts ps) → AllByRecursion (PackageFits texts (length body) strings_small) ps
  packages_fit [] short names offsets known = tt
  packages_fit (p ∷ ps) short names offsets known =
      let size = length-append (package_bytes texts p) (flat_map (package_bytes texts) ps) in
      let mine = all_left (Contains texts) (package_texts p) (index_texts ps) known in (
        (mine.0, mine.1.0, entries_fit p.entries offsets.0 mine.1.1, omega (arith, entries_behind p, size, short), names.0),
        packages_fit ps (omega (arith, size, short)) names.1 offsets.1 (all_right (Contains texts) (package_texts p) (index_texts ps) known),
      )

  all_fit : AllByRecursion (PackageFits texts (length body) strings_small) packages
  all_fit = packages_fit packages (omega (arith, index_small, index_size)) may.names may.offsets may.known

  packages_there : InOrder (IsPackage (section_of texts) (length body)) (flat_map (package_bytes texts) packages) packages []
  packages_there =
      subst (λ (bs : List ℕ). InOrder (IsPackage (section_of texts) (length body)) bs packages []) (append-nil (flat_map (package_bytes texts) packages))
      (in_turn (IsPackage (section_of texts) (length body)) (package_bytes texts) (PackageFits texts (length body) strings_small) (package_front texts (length body) strings_small) packages [] all_fit)

  pub envelope : Envelope own (full_bytes texts body packages) (file_of own texts body packages)
  envelope =
      let sizes = spelling_of (length (section_of texts)) ++ spelling_of (length body) in
      record {
        at_version = (spelling_of 2 ++ sizes) ++ (section_of texts ++ (body ++ index_bytes texts packages));
        at_strings_size = sizes ++ (section_of texts ++ (body ++ index_bytes texts packages));
        at_body_size = spelling_of (length body) ++ (section_of texts ++ (body ++ index_bytes texts packages));
        at_sections = (section_of texts ++ (body ++ index_bytes texts packages));
        at_packages = flat_map (package_bytes texts) packages;
        spelled = packages;
        whole = refl;
        letter = refl;
        version = before_others 2 sizes (section_of texts ++ (body ++ index_bytes texts packages)) (omega arith);
        known = inr refl;
        strings_size = before_others (length (section_of texts)) (spelling_of (length body)) (section_of texts ++ (body ++ index_bytes texts packages)) strings_small;
        body_size = number_front (length body) (section_of texts ++ (body ++ index_bytes texts packages)) body_small;
        strings_at = sym (length-append (header texts body) (section_of texts ++ (body ++ index_bytes texts packages)));
        body_at = refl;
        inside = omega (arith, whole_size);
        count = subst (λ (bs : List ℕ). BeginsWith bs (length packages) (flat_map (package_bytes texts) packages)) (sym (behind_body own texts body packages)) (number_front (length packages) (flat_map (package_bytes texts) packages) few_packages);
        packages = subst (λ (strings : List ℕ). InOrder (IsPackage strings (length body)) (flat_map (package_bytes texts) packages) packages []) (sym (strings_are own texts body packages)) packages_there;
        paths = may.paths;
        resolved = refl;
      }
