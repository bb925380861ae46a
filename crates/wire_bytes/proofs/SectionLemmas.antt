-- A section that is made: what stands in it, and where.
use Rattle.std.proofs.Common.{◌≡◌, ℕ, zero, suc, ◌+◌, ◌-◌, ◌*◌, ◌/◌, ◌%◌, ◌^◌, ◌<◌, ◌≤◌, Bool, true, false, cond, List, [], ◌∷◌, ◌++◌, length, drop, map, Option, Some, None, Result, Ok, Err, Vec, Global, refl, sym, ap, subst, ◌∙◌, arith, append_assoc, add-one, inl, inr, is_some}
use Rattle.std.specs.Prelude.{nat_eq, IfOk, OnOk}
use Rattle.std.specs.Option.{option_map}
use Rattle.std.specs.Cmp.Lexicographic.{pointwise, same_text as same_list}
use Rattle.std.specs.Map.{lookup}
use Rattle.std.proofs.lemmas.Cmp.{nat_list_eq_equiv}
use Rattle.indexmap.specs.IndexMap.{IndexMap, insert_entry}
use Rattle.indexmap.proofs.CallerLemmas.{insert_entry-new}
use Rattle.std.proofs.lemmas.Bool.{cases_lt, lt-ltb, le-ltb}
use Rattle.std.proofs.lemmas.Grind.{pow_more}
use Rattle.std.proofs.lemmas.List.{drop_all, length-append, append-nil}
use Rattle.wire_bytes.specs.Uvarint.{IsGroups, Uvarint}
use Rattle.wire_bytes.specs.Text.{Text}
use Rattle.wire_bytes.specs.Section.{groups_of, spelling_of, spelled_text, section_of, offset_in, with_text}
use Rattle.wire_bytes.proofs.Steps.{chosen}
use Rattle.wire_bytes.proofs.Spellings.{same_number}
use Rattle.wire_bytes.proofs.Spelled.{one_more}

groups_spell : (k n : ℕ) → n < 128 ^ (k + 1) → IsGroups (groups_of k n) n
groups_spell zero n small = (omega arith, refl)
groups_spell (suc k) n small =
    elim (cases_lt n 128) [
      | inl low ↦ rw (lt-ltb n 128 low) (low, refl)
      | inr high ↦
          let power : 128 ^ (suc k + 1) ≡ 128 ^ (k + 1) * 128 = rw (pow_more 128 (suc k), add-one k) refl in
          let smaller : n / 128 < 128 ^ (k + 1) = omega (arith, power) in
          let value : n % 128 + 128 - 128 + 128 * (n / 128) ≡ n = omega arith in
          rw (le-ltb n 128 high) (subst (IsGroups ((n % 128 + 128) ∷ groups_of k (n / 128))) value (one_more (n % 128 + 128) (n / 128) (groups_of k (n / 128)) (omega arith) (omega arith) (omega arith) (groups_spell k (n / 128) smaller)))
    ]

pub is_spelling : (n : ℕ) → n < 2 ^ 64 → Uvarint (spelling_of n) n
unfolding spelling_of
is_spelling n small = record { groups = groups_spell 9 n (omega arith); bits = small }

pub the_spelling : (bytes : List ℕ) (n : ℕ) → Uvarint bytes n → bytes ≡ spelling_of n
the_spelling bytes n spelled = same_number bytes (spelling_of n) n spelled (is_spelling n spelled.bits)

-- ---- what stands in a section

-- what stands at an offset stands there still when more is added at the end
pub text_stays : (strings more : List ℕ) (offset : ℕ) (text : List ℕ) → Text strings offset text → Text (strings ++ more) offset text
text_stays strings more offset text stands =
    elim (cases_lt offset (length strings)) [
      | inl lt ↦
          let front = stands.2.0 in
          let split : drop offset (strings ++ more) ≡ front ++ (stands.0 ++ more)
          = drop_front strings more offset (omega arith) ∙ ap (λ (t : List ℕ). t ++ more) stands.2.2 ∙ append_assoc front stands.0 more in
          (stands.0 ++ more, stands.1 ++ more, (front, stands.2.1, split), ap (λ (t : List ℕ). t ++ more) stands.3 ∙ append_assoc text stands.1 more)
      | inr past ↦ absurd (none stands.2.0 stands.0 (length text) stands.2.1 (sym (drop_all offset strings past) ∙ stands.2.2))
    ]
  where
    drop_front : (strings more : List ℕ) (offset : ℕ) → offset ≤ length strings → drop offset (strings ++ more) ≡ drop offset strings ++ more
    drop_front strings more zero le = refl
    drop_front [] more (suc offset) le = absurd (omega arith)
    drop_front (s ∷ strings) more (suc offset) le = drop_front strings more offset (omega arith)

    none : (front behind : List ℕ) (n : ℕ) → Uvarint front n → [] ≡ front ++ behind → ⊥
    none [] behind n spelled e = elim spelled.groups [ ]
    none (b ∷ front) behind n spelled e = absurd cc

pub section_more : (texts : List (List ℕ)) (text : List ℕ) → section_of (texts ++ text ∷ []) ≡ section_of texts ++ spelled_text text
section_more [] text = append-nil (spelled_text text)
section_more (t ∷ texts) text = ap (λ (s : List ℕ). spelled_text t ++ s) (section_more texts text) ∙ sym (append_assoc (spelled_text t) (section_of texts) (spelled_text text))

drop_past : (a b : List ℕ) (o : ℕ) → drop (length a + o) (a ++ b) ≡ drop o b
drop_past [] b o = ap (λ (n : ℕ). drop n b) (omega arith)
drop_past (x ∷ a) b o =
    let past : length (x ∷ a) + o ≡ suc (length a + o) = omega arith in
    rw past (drop_past a b o)

offset_is : (m n : ℕ) → Some m ≡ Some n → m ≡ n
offset_is m n e = cc

mapped : (L offset : ℕ) (r : Option ℕ) → option_map (λ o. L + o) r ≡ Some offset → (o : ℕ) × (r ≡ Some o) × (L + o ≡ offset)
mapped L offset (Some o) e = (o, refl, offset_is (L + o) offset e)
mapped L offset None e = absurd cc

-- a text stands where it is said to
pub text_stands : (texts : List (List ℕ)) (text : List ℕ) (offset : ℕ) → length text < 2 ^ 64 → offset_in texts text ≡ Some offset → Text (section_of texts) offset text
text_stands [] text offset small e = absurd cc
text_stands (t ∷ texts) text offset small e =
    elim (chosen (pointwise nat_eq text t) (Some 0) (option_map (λ o. length (spelled_text t) + o) (offset_in texts text)) (Some offset) e) [
      | inl here ↦
          let same : text ≡ t = same_list text t (sym here.0) in
          let front : 0 ≡ offset = offset_is 0 offset here.1 in
          subst (λ (o : ℕ). Text (section_of (t ∷ texts)) o text) front
          (subst (λ (x : List ℕ). Text (section_of (x ∷ texts)) 0 text) same
          (text ++ section_of texts, section_of texts, (spelling_of (length text), is_spelling (length text) small, append_assoc (spelling_of (length text)) text (section_of texts)), refl))
      | inr later ↦
          let behind = mapped (length (spelled_text t)) offset (offset_in texts text) later.1 in
          let stands : Text (section_of texts) behind.0 text = text_stands texts text behind.0 small behind.1 in
          subst (λ (o : ℕ). Text (section_of (t ∷ texts)) o text) behind.2
          (stands.0, stands.1, (stands.2.0, stands.2.1, drop_past (spelled_text t) (section_of texts) behind.0 ∙ stands.2.2), stands.3)
    ]

-- ---- the map from texts to offsets

abbrev or_else : Option ℕ → Option ℕ → Option ℕ
or_else (Some x) y = Some x
or_else None y = y

lookup_more : {K : Type 0} (test : K → Bool) (es : List (K × ℕ)) (k : K) (v : ℕ) → lookup test (es ++ (k, v) ∷ []) ≡ or_else (lookup test es) (cond (test k) (Some v) None)
lookup_more test [] k v = refl
lookup_more test (e ∷ es) k v = by (test e.0) (lookup test (es ++ (k, v) ∷ [])) (lookup test es) (lookup_more test es k v)
  where
    by : (b : Bool) (more r : Option ℕ) → more ≡ or_else r (cond (test k) (Some v) None) → cond b (Some e.1) more ≡ or_else (cond b (Some e.1) r) (cond (test k) (Some v) None)
    by true more r h = refl
    by false more r h = h

offset_more : (texts : List (List ℕ)) (t text : List ℕ) → offset_in (texts ++ t ∷ []) text ≡ or_else (offset_in texts text) (cond (pointwise nat_eq text t) (Some (length (section_of texts))) None)
offset_more [] t text = refl
offset_more (x ∷ texts) t text =
    let len : length (spelled_text x) + length (section_of texts) ≡ length (section_of (x ∷ texts)) = sym (length-append (spelled_text x) (section_of texts)) in
    by (pointwise nat_eq text x) (pointwise nat_eq text t) (length (spelled_text x)) (length (section_of texts)) (length (section_of (x ∷ texts))) (offset_in (texts ++ t ∷ []) text) (offset_in texts text) len (offset_more texts t text)
  where
    by : (b c : Bool) (l m n : ℕ) (more r : Option ℕ) → l + m ≡ n → more ≡ or_else r (cond c (Some m) None)
        → cond b (Some 0) (option_map (λ o. l + o) more) ≡ or_else (cond b (Some 0) (option_map (λ o. l + o) r)) (cond c (Some n) None)
    by true c l m n more r e h = refl
    by false c l m n more (Some o) e h = ap (option_map (λ o. l + o)) h
    by false true l m n more None e h = ap (option_map (λ o. l + o)) h ∙ ap (λ (x : ℕ). Some x) e
    by false false l m n more None e h = ap (option_map (λ o. l + o)) h

-- the texts of the map's entries
abbrev pub texts_of : List (Vec ℕ Global × ℕ) → List (List ℕ)
texts_of es = map (λ e. e.0.items) es

-- the section and the map hold the texts
abbrev pub Holds : List ℕ → List (Vec ℕ Global × ℕ) → Type 0
Holds bytes es = (bytes ≡ section_of (texts_of es)) × ((text : List ℕ) → lookup (λ k. pointwise nat_eq text k.items) es ≡ offset_in (texts_of es) text)

texts_more : (es : List (Vec ℕ Global × ℕ)) (key : Vec ℕ Global) (offset : ℕ) → texts_of (es ++ (key, offset) ∷ []) ≡ texts_of es ++ key.items ∷ []
texts_more [] key offset = refl
texts_more (e ∷ es) key offset = ap (λ (ts : List (List ℕ)). e.0.items ∷ ts) (texts_more es key offset)

pub holds_more : (bytes : List ℕ) (es : List (Vec ℕ Global × ℕ)) (key : Vec ℕ Global) → Holds bytes es → Holds (bytes ++ spelled_text key.items) (es ++ (key, length bytes) ∷ [])
holds_more bytes es key holds = (
  ap (λ (s : List ℕ). s ++ spelled_text key.items) holds.0 ∙ sym (section_more (texts_of es) key.items) ∙ ap section_of (sym (texts_more es key (length bytes))),
  λ text.
      lookup_more (λ k. pointwise nat_eq text k.items) es key (length bytes)
      ∙ ap (λ (r : Option ℕ). or_else r (cond (pointwise nat_eq text key.items) (Some (length bytes)) None)) (holds.1 text)
      ∙ ap (λ (n : ℕ). or_else (offset_in (texts_of es) text) (cond (pointwise nat_eq text key.items) (Some n) None)) (ap length holds.0)
      ∙ sym (offset_more (texts_of es) key.items text)
      ∙ ap (λ (ts : List (List ℕ)). offset_in ts text) (sym (texts_more es key (length bytes))),
)

-- ---- what the code does

pub added : (old spelling text one two : List ℕ) → Uvarint spelling (length text) → one ≡ old ++ spelling → two ≡ one ++ text → two ≡ old ++ spelled_text text
added old spelling text one two spelled first second =
    second ∙ ap (λ (s : List ℕ). s ++ text) (first ∙ ap (λ (s : List ℕ). old ++ s) (the_spelling spelling (length text) spelled)) ∙ append_assoc old (spelling_of (length text)) text

pub mentioned_stays : (texts new : List (List ℕ)) (text : List ℕ) → new ≡ with_text texts text → (o : ℕ) (t : List ℕ) → Text (section_of texts) o t → Text (section_of new) o t
mentioned_stays texts new text mentioned o t stands =
    elim (chosen (is_some (offset_in texts text)) texts (texts ++ text ∷ []) new (sym mentioned)) [
      | inl there ↦ subst (λ (ts : List (List ℕ)). Text (section_of ts) o t) there.1 stands
      | inr fresh ↦
          let more : section_of texts ++ spelled_text text ≡ section_of new = sym (section_more texts text) ∙ ap section_of fresh.1 in
          subst (λ (s : List ℕ). Text s o t) more (text_stays (section_of texts) (spelled_text text) o t stands)
    ]

-- a text that is mentioned first
pub record IsNew (bytes new_bytes : List ℕ) (es new : List (Vec ℕ Global × ℕ)) (key : Vec ℕ Global) (offset : ℕ) (text : List ℕ) : Type 0 where
  pub holds : Holds bytes es
  pub absent : lookup (λ k. pointwise nat_eq text k.items) es ≡ None
  pub copied : key.items ≡ text
  pub at_end : offset ≡ length bytes
  pub entries : new ≡ es ++ (key, offset) ∷ []
  pub appended : new_bytes ≡ bytes ++ spelled_text text

pub new_holds : (bytes new_bytes : List ℕ) (es new : List (Vec ℕ Global × ℕ)) (key : Vec ℕ Global) (offset : ℕ) (text : List ℕ) → IsNew bytes new_bytes es new key offset text → Holds new_bytes new
new_holds bytes new_bytes es new key offset text is =
    let bytes-are : bytes ++ spelled_text key.items ≡ new_bytes = ap (λ (t : List ℕ). bytes ++ spelled_text t) is.copied ∙ sym is.appended in
    let entries-are : es ++ (key, length bytes) ∷ [] ≡ new = ap (λ (o : ℕ). es ++ (key, o) ∷ []) (sym is.at_end) ∙ sym is.entries in
    subst (λ (bs : List ℕ). Holds bs new) bytes-are
    (subst (λ (es' : List (Vec ℕ Global × ℕ)). Holds (bytes ++ spelled_text key.items) es') entries-are (holds_more bytes es key is.holds))

new_texts_are : (bytes new_bytes : List ℕ) (es new : List (Vec ℕ Global × ℕ)) (key : Vec ℕ Global) (offset : ℕ) (text : List ℕ) → IsNew bytes new_bytes es new key offset text
    → texts_of new ≡ texts_of es ++ text ∷ []
new_texts_are bytes new_bytes es new key offset text is = ap texts_of is.entries ∙ texts_more es key offset ∙ ap (λ (t : List ℕ). texts_of es ++ t ∷ []) is.copied

pub new_texts : (bytes new_bytes : List ℕ) (es new : List (Vec ℕ Global × ℕ)) (key : Vec ℕ Global) (offset : ℕ) (text : List ℕ) → IsNew bytes new_bytes es new key offset text
    → texts_of new ≡ with_text (texts_of es) text
new_texts bytes new_bytes es new key offset text is =
    let none : offset_in (texts_of es) text ≡ None = sym (is.holds.1 text) ∙ is.absent in
    new_texts_are bytes new_bytes es new key offset text is ∙ sym (ap (λ (r : Option ℕ). cond (is_some r) (texts_of es) (texts_of es ++ text ∷ [])) none)

pub new_offset : (bytes new_bytes : List ℕ) (es new : List (Vec ℕ Global × ℕ)) (key : Vec ℕ Global) (offset : ℕ) (text : List ℕ) → IsNew bytes new_bytes es new key offset text
    → offset_in (texts_of new) text ≡ Some offset
new_offset bytes new_bytes es new key offset text is =
    let none : offset_in (texts_of es) text ≡ None = sym (is.holds.1 text) ∙ is.absent in
    let len : length (section_of (texts_of es)) ≡ offset = sym (ap length is.holds.0) ∙ sym is.at_end in
    ap (λ (ts : List (List ℕ)). offset_in ts text) (new_texts_are bytes new_bytes es new key offset text is)
    ∙ offset_more (texts_of es) text text
    ∙ ap (λ (r : Option ℕ). or_else r (cond (pointwise nat_eq text text) (Some (length (section_of (texts_of es)))) None)) none
    ∙ ap (λ (b : Bool). cond b (Some (length (section_of (texts_of es)))) None) (nat_list_eq_equiv.refl text)
    ∙ ap (λ (n : ℕ). Some n) len

pub entries_new : {S : Type 0} (m : IndexMap (Vec ℕ Global) ℕ S) (key : Vec ℕ Global) (offset : ℕ) (text : List ℕ) → key.items ≡ text → lookup (λ k. pointwise nat_eq text k.items) m.entries ≡ None
    → insert_entry (λ x y. pointwise nat_eq x.items y.items) m.entries key offset ≡ m.entries ++ (key, offset) ∷ []
entries_new {S} m key offset text copied none =
    insert_entry-new (λ x y. pointwise nat_eq x.items y.items) m key offset (subst (λ (t : List ℕ). lookup (λ k. pointwise nat_eq t k.items) m.entries ≡ None) (sym copied) none)

pub is_standing : {E : Type 0} (result : Result ℕ E) (texts : List (List ℕ)) (text : List ℕ) → length text < 2 ^ 64 → IfOk result (λ o. offset_in texts text ≡ Some o) → IfOk result (λ o. Text (section_of texts) o text)
is_standing (Ok o) texts text small found = text_stands texts text o small found
is_standing (Err e) texts text small found = tt

pub is_kept : {X E : Type 0} (result : Result X E) (texts new : List (List ℕ)) (text : List ℕ) → OnOk result (new ≡ with_text texts text)
    → OnOk result ((o : ℕ) (t : List ℕ) → Text (section_of texts) o t → Text (section_of new) o t)
is_kept (Ok x) texts new text mentioned = mentioned_stays texts new text mentioned
is_kept (Err e) texts new text mentioned = tt
