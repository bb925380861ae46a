-- What is put one after the other.
use Rattle.std.proofs.Common.{◌≡◌, ℕ, zero, suc, ◌+◌, ◌<◌, Bool, true, false, cond, List, [], ◌∷◌, ◌++◌, length, map, take, Option, Some, None, Result, Ok, Err, refl, sym, ap, ap₂, subst, ◌∙◌, append_assoc, append-nil, is_some, get_or, arith}
use Rattle.std.specs.Prelude.{fold, nat_eq, unwrap_or, OnOk, IfOk}
use Rattle.std.specs.List.{flat_map}
use Rattle.std.specs.Option.{option_map}
use Rattle.std.specs.Cmp.Lexicographic.{pointwise}
use Rattle.wire_bytes.specs.Begins.{Appends}
use Rattle.wire_bytes.specs.Uvarint.{Uvarint}
use Rattle.wire_bytes.specs.Section.{spelling_of, spelled_text, section_of, offset_in, with_text}
use Rattle.wire_bytes.proofs.SectionLemmas.{the_spelling}
use Rattle.file_envelope.specs.FileBytes.{text_number, entry_bytes, package_texts, package_bytes, index_texts, index_bytes, full_bytes, file_of, MayFollow}
use Rattle.file_envelope.proofs.EnvelopeLemmas.{envelope}
use Rattle.name_index.specs.Envelope.{Envelope}
use Rattle.std.proofs.lemmas.List.{length-map}
use Rattle.std.proofs.lemmas.List.Concat.{flat_map_single}
use Rattle.name_index.specs.FullFile.{Entry, Package}
use Rattle.file_writer.specs.declared.writing.IndexPackage.{IndexPackage}
use Rattle.file_writer.specs.Puts.{Puts, entry_of, package_of, front_bytes}

abbrev Texts : Type 0
Texts = List (List ℕ)

-- an offset stays as texts are added
offset_stays : (texts more : Texts) (text : List ℕ) (o : ℕ) → offset_in texts text ≡ Some o → offset_in (texts ++ more) text ≡ Some o
offset_stays [] more text o e = absurd cc
offset_stays (t ∷ texts) more text o e = by (pointwise nat_eq text t) (offset_in texts text) refl e (offset_stays texts more text)
  where
    by : (b : Bool) (found : Option ℕ) → offset_in texts text ≡ found → cond b (Some 0) (option_map (λ o. length (spelled_text t) + o) found) ≡ Some o → ((o : ℕ) → offset_in texts text ≡ Some o → offset_in (texts ++ more) text ≡ Some o)
        → cond b (Some 0) (option_map (λ o. length (spelled_text t) + o) (offset_in (texts ++ more) text)) ≡ Some o
    by true found is e later = e
    by false (Some n) is e later = ap (option_map (λ o. length (spelled_text t) + o)) (later n is) ∙ e
    by false None is e later = absurd cc

with_grows : (texts : Texts) (text : List ℕ) → (more : Texts) × (with_text texts text ≡ texts ++ more)
with_grows texts text = by (is_some (offset_in texts text))
  where
    by : (b : Bool) → (more : Texts) × (cond b texts (texts ++ text ∷ []) ≡ texts ++ more)
    by true = ([], sym (append-nil texts))
    by false = (text ∷ [], refl)

fold_grows : (texts ts : Texts) → (more : Texts) × (fold with_text texts ts ≡ texts ++ more)
fold_grows texts [] = ([], sym (append-nil texts))
fold_grows texts (t ∷ ts) =
    let first = with_grows texts t in
    let rest = fold_grows (with_text texts t) ts in
    (first.0 ++ rest.0, rest.1 ∙ ap (λ (xs : Texts). xs ++ rest.0) first.1 ∙ append_assoc texts first.0 rest.0)

fold_both : (texts xs ys : Texts) → fold with_text texts (xs ++ ys) ≡ fold with_text (fold with_text texts xs) ys
fold_both texts [] ys = refl
fold_both texts (x ∷ xs) ys = fold_both (with_text texts x) xs ys

pub put_then : {xs ys : Texts} {f g : Texts → List ℕ} {a b c : Texts} {u v w : List ℕ} → Puts xs f a b u v → Puts ys g b c v w → Puts (xs ++ ys) (λ ts. f ts ++ g ts) a c u w
put_then {xs} {ys} {f} {g} {a} {b} {c} {u} first second = record {
  said = second.said ∙ ap (λ (ts : Texts). fold with_text ts ys) first.said ∙ sym (fold_both a xs ys);
  added = λ more.
      let grown = fold_grows b ys in
      let all : b ++ (grown.0 ++ more) ≡ c ++ more = sym (append_assoc b grown.0 more) ∙ ap (λ (ts : Texts). ts ++ more) (sym (second.said ∙ grown.1)) in
      second.added more
      ∙ ap (λ (bs : List ℕ). bs ++ g (c ++ more)) (first.added (grown.0 ++ more) ∙ ap (λ (ts : Texts). u ++ f ts) all)
      ∙ append_assoc u (f (c ++ more)) (g (c ++ more));
}

pub put_none : (a : Texts) (u : List ℕ) → Puts [] (λ ts. []) a a u u
put_none a u = record { said = refl; added = λ more. sym (append-nil u) }

-- a number that was added
pub number_added : (n : ℕ) (u v : List ℕ) → Appends Uvarint u n v → v ≡ u ++ spelling_of n
number_added n u v appends = appends.2 ∙ ap (λ (bs : List ℕ). u ++ bs) (the_spelling appends.0 n appends.1)

pub put_number : (n : ℕ) (a : Texts) (u v : List ℕ) → v ≡ u ++ spelling_of n → Puts [] (λ ts. spelling_of n) a a u v
put_number n a u v added = record { said = refl; added = λ more. added }

pub put_offset : (text : List ℕ) (o : ℕ) (a b : Texts) (u v : List ℕ) → b ≡ with_text a text → offset_in b text ≡ Some o → Appends Uvarint u o v → Puts (text ∷ []) (λ ts. spelling_of (text_number ts text)) a b u v
put_offset text o a b u v said found appends = record {
  said = said;
  added = λ more.
      let is : o ≡ text_number (b ++ more) text = sym (ap (λ (r : Option ℕ). unwrap_or r 0) (offset_stays b more text o found)) in
      appends.2 ∙ ap (λ (bs : List ℕ). u ++ bs) (the_spelling appends.0 o appends.1 ∙ ap spelling_of is);
}

pub on_ok : {X E : Type 0} (result : Result X E) (P Q : Type 0) → (P → Q) → OnOk result P → OnOk result Q
on_ok (Ok x) P Q step holds = step holds
on_ok (Err e) P Q step holds = tt

pub header_is : (s a b w0 w1 w2 w3 w4 : List ℕ) → w0 ≡ [] → w1 ≡ w0 ++ 105 ∷ [] → w2 ≡ w1 ++ s → w3 ≡ w2 ++ a → w4 ≡ w3 ++ b → w4 ≡ 105 ∷ (s ++ (a ++ b))
header_is s a b w0 w1 w2 w3 w4 e0 e1 e2 e3 e4 =
    let two : w2 ≡ 105 ∷ s = e2 ∙ ap (λ (x : List ℕ). x ++ s) (e1 ∙ ap (λ (x : List ℕ). x ++ 105 ∷ []) e0) in
    let three : w3 ≡ 105 ∷ (s ++ a) = e3 ∙ ap (λ (x : List ℕ). x ++ a) two in
    e4 ∙ ap (λ (x : List ℕ). x ++ b) three ∙ ap (λ (x : List ℕ). 105 ∷ x) (append_assoc s a b)

-- ---- things of a list

next_is : {X : Type 0} (xs : List X) (i : ℕ) (d : X) → i < length xs → take (i + 1) xs ≡ take i xs ++ get_or xs i d ∷ []
next_is [] i d inside = absurd (omega (arith, inside))
next_is (x ∷ xs) zero d inside = refl
next_is (x ∷ xs) (suc i) d inside =
    let one : suc i + 1 ≡ suc (i + 1) = omega arith in
    ap (λ (n : ℕ). take n (x ∷ xs)) one ∙ ap (λ (ys : List _). x ∷ ys) (next_is xs i d (omega (arith, inside)))

-- one more thing of a list
module _ {X Y : Type 0} (make : X → Y) (texts_of : Y → Texts) (bytes_of : Texts → Y → List ℕ) where
  abbrev PutsAll : List X → Texts → Texts → List ℕ → List ℕ → Type 0
  PutsAll xs a b u v = Puts (flat_map texts_of (map make xs)) (λ ts. flat_map (bytes_of ts) (map make xs)) a b u v

  texts_more : (xs : List X) (x : X) → flat_map texts_of (map make (xs ++ x ∷ [])) ≡ flat_map texts_of (map make xs) ++ texts_of (make x)
  texts_more [] x = append-nil (texts_of (make x))
  texts_more (y ∷ ys) x = ap (λ (ts : Texts). texts_of (make y) ++ ts) (texts_more ys x) ∙ sym (append_assoc (texts_of (make y)) (flat_map texts_of (map make ys)) (texts_of (make x)))

  bytes_more : (ts : Texts) (xs : List X) (x : X) → flat_map (bytes_of ts) (map make (xs ++ x ∷ [])) ≡ flat_map (bytes_of ts) (map make xs) ++ bytes_of ts (make x)
  bytes_more ts [] x = append-nil (bytes_of ts (make x))
  bytes_more ts (y ∷ ys) x = ap (λ (bs : List ℕ). bytes_of ts (make y) ++ bs) (bytes_more ts ys x) ∙ sym (append_assoc (bytes_of ts (make y)) (flat_map (bytes_of ts) (map make ys)) (bytes_of ts (make x)))

  pub put_more : (xs : List X) (x : X) (a b c : Texts) (u v w : List ℕ) → PutsAll xs a b u v → Puts (texts_of (make x)) (λ ts. bytes_of ts (make x)) b c v w → PutsAll (xs ++ x ∷ []) a c u w
  put_more xs x a b c u v w first second =
      let both = put_then first second in
      record {
        said = both.said ∙ ap (fold with_text a) (sym (texts_more xs x));
        added = λ more. both.added more ∙ ap (λ (bs : List ℕ). u ++ bs) (sym (bytes_more (c ++ more) xs x));
      }

  pub put_next : (xs : List X) (i : ℕ) (d : X) (a b c : Texts) (u v w : List ℕ) → i < length xs → PutsAll (take i xs) a b u v → Puts (texts_of (make (get_or xs i d))) (λ ts. bytes_of ts (make (get_or xs i d))) b c v w
      → PutsAll (take (i + 1) xs) a c u w
  put_next xs i d a b c u v w inside first second =
      subst (λ (ys : List X). PutsAll ys a c u w) (sym (next_is xs i d inside)) (put_more (take i xs) (get_or xs i d) a b c u v w first second)

-- what a package holds, one after the other
pub package_put : (listed : IndexPackage) (a b c d : Texts) (t u v w x y : List ℕ) → Puts (listed.path.now ∷ []) (λ ts. spelling_of (text_number ts listed.path.now)) a b t u → Puts (listed.name.now ∷ []) (λ ts. spelling_of (text_number ts listed.name.now)) b c u v
    → w ≡ v ++ spelling_of 0 → x ≡ w ++ spelling_of (length listed.entries.now)
    → Puts (flat_map (λ e. e.name ∷ []) (map entry_of listed.entries.now)) (λ ts. flat_map (entry_bytes ts) (map entry_of listed.entries.now)) c d x y
    → Puts (package_texts (package_of listed)) (λ ts. package_bytes ts (package_of listed)) a d t y
package_put listed a b c d t u v w x y path name height count entries =
    let all = put_then path (put_then name (put_then (put_number 0 c v w height) (put_then (put_number (length listed.entries.now) c w x count) entries))) in
    let names : flat_map (λ (e : Entry). e.name ∷ []) (map entry_of listed.entries.now) ≡ map (λ (e : Entry). e.name) (map entry_of listed.entries.now) = flat_map_single (λ (e : Entry). e.name) (map entry_of listed.entries.now) in
    record {
      said = all.said ∙ ap (λ (ns : Texts). fold with_text a (listed.path.now ∷ listed.name.now ∷ ns)) names;
      added = λ more.
          all.added more
          ∙ ap (λ (n : ℕ). t ++ (spelling_of (text_number (d ++ more) listed.path.now) ++ (spelling_of (text_number (d ++ more) listed.name.now) ++ (spelling_of 0 ++ (spelling_of n ++ flat_map (entry_bytes (d ++ more)) (map entry_of listed.entries.now))))))
          (sym (length-map listed.entries.now entry_of));
    }

pub if_ok : {X E : Type 0} (result : Result X E) (P Q : X → Type 0) → ((x : X) → P x → Q x) → IfOk result P → IfOk result Q
if_ok (Ok x) P Q step holds = step x holds
if_ok (Err e) P Q step holds = tt

pub file_written : (old new : Texts) (body : List ℕ) (ps : List Package) (s p q bytes : List ℕ) → s ≡ section_of new → Puts (index_texts ps) (λ ts. index_bytes ts ps) old new [] p → q ≡ p → bytes ≡ front_bytes (length s) (length body) ++ (s ++ (body ++ q))
    → bytes ≡ full_bytes new body ps
file_written old new body ps s p q bytes strings index same is =
    let its : q ≡ index_bytes new ps = same ∙ index.added [] ∙ ap (λ (ts : Texts). index_bytes ts ps) (append-nil new) in
    is ∙ ap₂ (λ (x y : List ℕ). front_bytes (length x) (length body) ++ (x ++ (body ++ y))) strings its

pub file_envelope : (new : Texts) (body : List ℕ) (ps : List Package) (bytes : List ℕ) → bytes ≡ full_bytes new body ps → (own : List ℕ) → MayFollow own new body ps → Envelope own bytes (file_of own new body ps)
file_envelope new body ps bytes is own may = subst (λ (bs : List ℕ). Envelope own bs (file_of own new body ps)) (sym is) (envelope own new body ps may)
