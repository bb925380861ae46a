-- The texts that stand for paths: the relation, and the function that decides it.
use Rattle.std.proofs.Common.{◌≡◌, ℕ, zero, suc, ◌||◌, ◌&&◌, Bool, true, false, cond, List, [], ◌∷◌, map, Option, Some, None, slice_get, refl, sym, ap, subst, ◌∙◌, inl, inr, length}
use Rattle.std.specs.Prelude.{nat_eq, ◌==◌, is_some, IfSome, IfNone}
use Rattle.std.specs.Bool.{then_some}
use Rattle.std.specs.Borrow.{Bor}
use Rattle.std.specs.List.{Contains}
use Rattle.std.specs.Option.{option_copied, option_and_then}
use Rattle.std.specs.Cmp.Lexicographic.{pointwise, same_text}
use Rattle.std.specs.Cmp.{IsEquivalence}
use Rattle.std.proofs.lemmas.Cmp.{nat_list_eq_equiv}
use Rattle.std.proofs.lemmas.Map.Views.{list_any-from_Contains, Contains-from_any}
use Rattle.wire_bytes.specs.Text.{Text, text_in}
use Rattle.wire_bytes.proofs.Steps.{chosen}
use Rattle.wire_bytes.proofs.Spellings.{IsBytes}
use Rattle.wire_bytes.proofs.TextLemmas.{text_takes, text_again}
use Rattle.file_parts.specs.declared.parts.FileForm.{FileForm}
use Rattle.file_parts.specs.declared.parts.FileForm.TheVariants.{Full, Shallow, Bundle}
use Rattle.wire_bytes.specs.Order.{RiseFrom, Rise}
use Rattle.file_parts.specs.Paths.{ArePaths, ArePathsIn, meant, IsPathFor, IsPathAt, is_among, path_for, path_in}

-- ---- the paths of an index rise

full_rise : (own : List ℕ) (paths : List (List ℕ)) → ArePaths own paths → Rise paths
full_rise own [] paths = elim paths [ ]
full_rise own (first ∷ others) paths = subst (λ (t : List ℕ). RiseFrom t others) (sym paths.0) paths.1

pub paths_rise : (form : FileForm) (own : List ℕ) (paths : List (List ℕ)) → ArePathsIn form own paths → Rise paths
paths_rise Full own paths are = full_rise own paths are
paths_rise Shallow own paths are = full_rise own paths are
paths_rise Bundle own paths are = are.0

-- ---- a text among others

abbrev text_laws : IsEquivalence (pointwise nat_eq)
text_laws = nat_list_eq_equiv

some_text : (a b : List ℕ) → Some a ≡ Some b → a ≡ b
some_text a b e = cc

among_at : (texts : List (List ℕ)) (text : List ℕ) (i : ℕ) → slice_get texts i ≡ Some text → is_among texts text ≡ true
among_at [] text i at = absurd cc
among_at (t ∷ ts) text zero at =
    let itself : pointwise nat_eq text t ≡ true = subst (λ (x : List ℕ). pointwise nat_eq text x ≡ true) (sym (some_text t text at)) (text_laws.refl text) in
    ap (λ (b : Bool). b || is_among ts text) itself
among_at (t ∷ ts) text (suc i) at = last (pointwise nat_eq text t) (is_among ts text) (among_at ts text i at)
  where
    last : (a b : Bool) → b ≡ true → (a || b) ≡ true
    last true b e = refl
    last false b e = e

not_among : (texts : List (List ℕ)) (text : List ℕ) → ((i : ℕ) → slice_get texts i ≡ Some text → ⊥) → is_among texts text ≡ false
not_among [] text never = refl
not_among (t ∷ ts) text never =
    ap (λ (b : Bool). b || is_among ts text) (differs (pointwise nat_eq text t) refl) ∙ not_among ts text (λ i. never (suc i))
  where
    differs : (b : Bool) → pointwise nat_eq text t ≡ b → pointwise nat_eq text t ≡ false
    differs true e = absurd (never 0 (ap (λ (x : List ℕ). Some x) (sym (same_text text t (sym e)))))
    differs false e = e

-- what a search tells
pub among_is : (texts : List (List ℕ)) (text : List ℕ) (found : Option ℕ) → IfSome found (λ i. slice_get texts i ≡ Some text)
    → IfNone found ((i : ℕ) → slice_get texts i ≡ Some text → ⊥) → is_some found ≡ is_among texts text
among_is texts text (Some i) at never = sym (among_at texts text i at)
among_is texts text None at never = sym (not_among texts text never)

among_takes : (texts : List (List ℕ)) (text : List ℕ) → is_among texts text ≡ true → Contains texts text
among_takes texts text e = Contains-from_any (λ x y same. same_text x y (sym same)) text texts e

among_again : (texts : List (List ℕ)) (text : List ℕ) → Contains texts text → is_among texts text ≡ true
among_again texts text there = list_any-from_Contains text_laws text texts there

-- A text that isn't empty is a path of the index, or it is the file's own and the index has the empty text for it.
pub among_meant : (own : List ℕ) (paths : List (List ℕ)) (b : ℕ) (bs : List ℕ)
    → (is_among paths (b ∷ bs) || (pointwise nat_eq (b ∷ bs) own && is_among paths [])) ≡ is_among (map (meant own) paths) (b ∷ bs)
among_meant own [] b bs = none (pointwise nat_eq (b ∷ bs) own)
  where
    none : (e : Bool) → (false || (e && false)) ≡ false
    none true = refl
    none false = refl
among_meant own ([] ∷ ps) b bs =
    here (pointwise nat_eq (b ∷ bs) own) (is_among ps (b ∷ bs)) (is_among ps [])
    ∙ ap (λ (x : Bool). pointwise nat_eq (b ∷ bs) own || x) (among_meant own ps b bs)
  where
    here : (e a n : Bool) → (a || (e && true)) ≡ (e || (a || (e && n)))
    here true true n = refl
    here true false n = refl
    here false true n = refl
    here false false n = refl
among_meant own ((c ∷ cs) ∷ ps) b bs =
    there (pointwise nat_eq (b ∷ bs) (c ∷ cs)) (is_among ps (b ∷ bs)) (pointwise nat_eq (b ∷ bs) own && is_among ps [])
    ∙ ap (λ (x : Bool). pointwise nat_eq (b ∷ bs) (c ∷ cs) || x) (among_meant own ps b bs)
  where
    there : (p a e : Bool) → ((p || a) || e) ≡ (p || (a || e))
    there true a e = refl
    there false a e = refl

-- ---- a text that stands for a path

abbrev some_path : List ℕ → Option (List ℕ)
some_path t = Some t

path_for_takes : (own : List ℕ) (paths : List (List ℕ)) (text path : List ℕ) → path_for own paths text ≡ Some path → IsPathFor own paths text path
path_for_takes own paths [] path e =
    elim (chosen (is_among paths []) (some_path own) None (Some path) e) [
      | inl listed ↦ (among_takes paths [] listed.0, some_text path own (sym listed.1))
      | inr missing ↦ absurd (let no = missing.1 in cc)
    ]
path_for_takes own paths (b ∷ bs) path e =
    elim (chosen (is_among (map (meant own) paths) (b ∷ bs)) (some_path (b ∷ bs)) None (Some path) e) [
      | inl listed ↦ (among_takes (map (meant own) paths) (b ∷ bs) listed.0, some_text path (b ∷ bs) (sym listed.1))
      | inr missing ↦ absurd (let no = missing.1 in cc)
    ]

path_for_again : (own : List ℕ) (paths : List (List ℕ)) (text path : List ℕ) → IsPathFor own paths text path → path_for own paths text ≡ Some path
path_for_again own paths [] path stands =
    ap (λ (b : Bool). cond b (some_path own) None) (among_again paths [] stands.0) ∙ ap some_path (sym stands.1)
path_for_again own paths (b ∷ bs) path stands =
    ap (λ (x : Bool). cond x (some_path (b ∷ bs)) None) (among_again (map (meant own) paths) (b ∷ bs) stands.0) ∙ ap some_path (sym stands.1)

-- a text that isn't empty
pub path_for_text : (own : List ℕ) (paths : List (List ℕ)) (text : List ℕ) (known : Bool) → false ≡ (length text == 0)
    → known ≡ (is_among paths text || (pointwise nat_eq text own && is_among paths [])) → cond known (some_path text) None ≡ path_for own paths text
path_for_text own paths [] known some e = absurd cc
path_for_text own paths (b ∷ bs) known some e = ap (λ (x : Bool). cond x (some_path (b ∷ bs)) None) (e ∙ among_meant own paths b bs)

pub copied_then : (b : Bool) (text : Bor (List ℕ)) → option_copied (then_some b text) ≡ cond b (some_path text.now) None
copied_then true text = refl
copied_then false text = refl

-- ---- a path at an offset

pub path_again : (strings own : List ℕ) (paths : List (List ℕ)) (offset : ℕ) (path : List ℕ) → IsPathAt strings own paths offset path → path_in strings own paths offset ≡ Some path
path_again strings own paths offset path stands =
    ap (λ (o : Option (List ℕ)). option_and_then (path_for own paths) o) (text_again strings offset stands.0 stands.1) ∙ path_for_again own paths stands.0 path stands.2

pub path_takes : (strings own : List ℕ) (paths : List (List ℕ)) (offset : ℕ) (path : List ℕ) → IsBytes strings → path_in strings own paths offset ≡ Some path → IsPathAt strings own paths offset path
path_takes strings own paths offset path fits e = by (text_in strings offset) refl e
  where
    by : (o : Option (List ℕ)) → text_in strings offset ≡ o → option_and_then (path_for own paths) o ≡ Some path → IsPathAt strings own paths offset path
    by (Some text) there e = (text, text_takes strings offset text fits there, path_for_takes own paths text path e)
    by None there e = absurd cc

-- ---- what a call answers

-- a text is there, and its path was answered
pub path_found : (strings own : List ℕ) (paths : List (List ℕ)) (offset : ℕ) (text : List ℕ) (result : Option (Bor (List ℕ))) → Text strings offset text
    → option_copied result ≡ path_for own paths text → IfSome result (λ path. IsPathAt strings own paths offset path.now)
path_found strings own paths offset text (Some path) there e = (text, there, path_for_takes own paths text path.now (sym e))
path_found strings own paths offset text None there e = tt

pub no_path : (strings own : List ℕ) (paths : List (List ℕ)) (offset : ℕ) (result : Option (Bor (List ℕ))) → option_copied result ≡ path_in strings own paths offset
    → IfNone result ((path : List ℕ) → IsPathAt strings own paths offset path → ⊥)
no_path strings own paths offset (Some path) e = tt
no_path strings own paths offset None e = λ path stands. let found = path_again strings own paths offset path stands in absurd cc
