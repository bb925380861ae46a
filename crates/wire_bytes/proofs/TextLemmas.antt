-- What is found at an offset is spelled there, and what is spelled there is found.
use Rattle.std.proofs.Common.{◌≡◌, ℕ, ◌<◌, ◌≤◌, false, ltb, ◌+◌, List, ◌++◌, length, take, drop, Option, Some, None, Ok, Err, refl, sym, ap, subst, ◌∙◌, arith, inl, inr, Bor, append_assoc, ◌-◌, slice_range}
use Rattle.std.specs.Prelude.{IfSome, IfNone}
use Rattle.std.specs.Option.{option_copied}
use Rattle.std.proofs.lemmas.Bool.{ltb-false, le-ltb, lt-ltb}
use Rattle.std.proofs.lemmas.List.{drop_all, take-append-drop, take_at, drop_at, length-append, length-take, get_or-drop}
use Rattle.wire_bytes.specs.declared.number.Unspelled.{Unspelled}
use Rattle.wire_bytes.specs.Uvarint.{BeginsWith, Front, uvarint_in}
use Rattle.wire_bytes.specs.Text.{Text, text_behind, text_in}
use Rattle.wire_bytes.proofs.Steps.{chosen}
use Rattle.wire_bytes.proofs.UvarintLemmas.{rest_from}
use Rattle.wire_bytes.proofs.Spellings.{IsBytes, uvarint_takes, begins_again}

pub text_past : (strings : List ℕ) (offset : ℕ) → length strings ≤ offset → text_in strings offset ≡ None
unfolding text_in uvarint_in
text_past strings offset past = rw (drop_all offset strings past) refl

pub IsBytes-drop : (n : ℕ) (bytes : List ℕ) → IsBytes bytes → IsBytes (drop n bytes)
IsBytes-drop n bytes fits i = rw get_or-drop (fits (n + i))

abbrev some : List ℕ → Option (List ℕ)
some t = Some t

some_is : (x y : List ℕ) → some x ≡ some y → x ≡ y
some_is x y h = cc

behind_takes : (bytes : List ℕ) (front : Front) (text : List ℕ) → IsBytes bytes → uvarint_in bytes ≡ front → text_behind front ≡ Some text
    → (behind rest : List ℕ) × BeginsWith bytes (length text) behind × (behind ≡ text ++ rest)
behind_takes bytes (Ok (n, behind)) text fits read e =
    elim (chosen (ltb (length behind) n) None (Some (take n behind)) (Some text) e) [
      | inl short ↦ absurd (let no = short.1 in cc)
      | inr fine ↦
          let text-is : take n behind ≡ text = some_is _ _ fine.1 in
          let enough : n ≤ length behind = ltb-false (length behind) n fine.0 in
          let len : n ≡ length text = omega (arith, length-take n behind, ap length text-is) in
          let begins : BeginsWith bytes n behind = uvarint_takes bytes n behind fits read in
          (behind, drop n behind, subst (λ (k : ℕ). BeginsWith bytes k behind) len begins, sym (take-append-drop n behind) ∙ ap (λ (t : List ℕ). t ++ drop n behind) text-is)
    ]
behind_takes bytes (Err d) text fits read e = absurd cc

pub text_takes : (strings : List ℕ) (offset : ℕ) (text : List ℕ) → IsBytes strings → text_in strings offset ≡ Some text → Text strings offset text
unfolding text_in
text_takes strings offset text fits e = behind_takes (drop offset strings) (uvarint_in (drop offset strings)) text (IsBytes-drop offset strings fits) refl e

pub text_again : (strings : List ℕ) (offset : ℕ) (text : List ℕ) → Text strings offset text → text_in strings offset ≡ Some text
unfolding text_in
text_again strings offset text stands =
    let behind = stands.0 in
    let rest = stands.1 in
    let number : uvarint_in (drop offset strings) ≡ Ok (length text, behind) = begins_again (drop offset strings) (length text) behind stands.2 in
    let enough : ltb (length behind) (length text) ≡ false = le-ltb _ _ (omega (arith, ap length stands.3, length-append text rest)) in
    let front : take (length text) behind ≡ text = ap (take (length text)) stands.3 ∙ take_at text rest (length text) refl in
    rw (number, enough, front) refl

pub is_found : (strings : List ℕ) (offset : ℕ) (result : Option (Bor (List ℕ))) → IsBytes strings → option_copied result ≡ text_in strings offset → IfSome result (λ t. Text strings offset t.now)
is_found strings offset (Some text) fits e = text_takes strings offset text.now fits (sym e)
is_found strings offset None fits e = tt

pub is_none : (strings : List ℕ) (offset : ℕ) (result : Option (Bor (List ℕ))) → option_copied result ≡ text_in strings offset → IfNone result ((text : List ℕ) → Text strings offset text → ⊥)
is_none strings offset (Some text) e = tt
is_none strings offset None e = λ text stands. let found = text_again strings offset text stands in absurd cc

pub same_text : (strings : List ℕ) (offset : ℕ) (a b : List ℕ) → Text strings offset a → Text strings offset b → a ≡ b
same_text strings offset a b first second = some_is a b (sym (text_again strings offset a first) ∙ text_again strings offset b second)

-- ---- a text by its place

-- what stands at the end of a list
end_of : (a b c : List ℕ) → c ≡ a ++ b → drop (length c - length b) c ≡ b
end_of a b c e =
    let len : length a ≡ length c - length b = omega (arith, ap length e, length-append a b) in
    ap (drop (length c - length b)) e ∙ drop_at a b (length c - length b) len

pub text_lies : (strings : List ℕ) (offset len : ℕ) (rest : List ℕ) → Ok (len, rest) ≡ uvarint_in (take (length strings - offset) (drop offset strings))
    → BeginsWith (take (length strings - offset) (drop offset strings)) len rest → len ≤ length rest
    → text_in strings offset ≡ Some (slice_range strings (length strings - length rest) (length strings - length rest + len))
unfolding text_in
text_lies strings offset len rest read begins enough =
    let number : uvarint_in (drop offset strings) ≡ Ok (len, rest) = sym (read ∙ ap uvarint_in (rest_from offset strings)) in
    let split : drop offset strings ≡ begins.0 ++ rest = sym (rest_from offset strings) ∙ begins.2 in
    let whole : strings ≡ (take offset strings ++ begins.0) ++ rest
    = sym (take-append-drop offset strings) ∙ ap (λ (t : List ℕ). take offset strings ++ t) split ∙ sym (append_assoc (take offset strings) begins.0 rest) in
    let there : drop (length strings - length rest) strings ≡ rest = end_of (take offset strings ++ begins.0) rest strings whole in
    let width : length strings - length rest + len - (length strings - length rest) ≡ len = omega arith in
    rw (number, le-ltb (length rest) len enough, width, there) refl

pub text_place : (strings : List ℕ) (offset len : ℕ) (rest : List ℕ) → BeginsWith (take (length strings - offset) (drop offset strings)) len rest
    → BeginsWith (drop offset strings) (length strings - length rest + len - (length strings - length rest)) (drop (length strings - length rest) strings)
text_place strings offset len rest begins =
    let split : drop offset strings ≡ begins.0 ++ rest = sym (rest_from offset strings) ∙ begins.2 in
    let whole : strings ≡ (take offset strings ++ begins.0) ++ rest
    = sym (take-append-drop offset strings) ∙ ap (λ (t : List ℕ). take offset strings ++ t) split ∙ sym (append_assoc (take offset strings) begins.0 rest) in
    let there : drop (length strings - length rest) strings ≡ rest = end_of (take offset strings ++ begins.0) rest strings whole in
    let width : length strings - length rest + len - (length strings - length rest) ≡ len = omega arith in
    rw (width, there) (begins.0, begins.1, split)

pub text_short : (strings : List ℕ) (offset len : ℕ) (rest : List ℕ) → Ok (len, rest) ≡ uvarint_in (take (length strings - offset) (drop offset strings)) → length rest < len → text_in strings offset ≡ None
unfolding text_in
text_short strings offset len rest read short =
    let number : uvarint_in (drop offset strings) ≡ Ok (len, rest) = sym (read ∙ ap uvarint_in (rest_from offset strings)) in
    rw (number, lt-ltb (length rest) len short) refl

pub no_number : (strings : List ℕ) (offset : ℕ) (d : Unspelled) → Err d ≡ uvarint_in (take (length strings - offset) (drop offset strings)) → text_in strings offset ≡ None
unfolding text_in
no_number strings offset d read =
    let number : uvarint_in (drop offset strings) ≡ Err d = sym (read ∙ ap uvarint_in (rest_from offset strings)) in
    rw number refl
