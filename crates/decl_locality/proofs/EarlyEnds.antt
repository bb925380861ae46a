-- A descriptor that ends before a stop is read alike up to that stop.
use Rattle.std.proofs.Common.{◌≡◌, ℕ, zero, suc, ◌+◌, ◌-◌, ◌<◌, ◌≤◌, List, [], ◌∷◌, ◌++◌, length, take, drop, Result, Ok, refl, sym, ◌∙◌, ap, subst, arith, length-append, length-drop, length-take-le}
use Rattle.decl_spelling.specs.Sections.{Sections, HoldsBytes, window}
use Rattle.decl_spelling.specs.Reading.{Ahead, Stopped, start}
use Rattle.decl_spelling.specs.Descriptors.{Flat, flat_at}
use Rattle.decl_spelling.specs.Descent.{offset_of}
use Rattle.decl_spelling.specs.Grammar.{Here, IsDescriptor}
use Rattle.decl_spelling.specs.Spelling.{here}
use Rattle.decl_spelling.proofs.Took.{seen_from}
use Rattle.decl_spelling.proofs.FlatLaws.{flat_took, flat_again}
use Rattle.decl_spelling.proofs.Windows.{part, behind, behind_length, part_length}
use Rattle.decl_spelling.proofs.BlockTakes.{window_fits, here_is}
use Rattle.decl_spelling.proofs.NewBlocks.{descriptor_some}
use Rattle.decl_spelling.proofs.DeclAtLaws.{strings_are, body_is}
use Rattle.decl_locality.specs.LocalReaders.{longer}
use Rattle.decl_locality.proofs.DescriptorReaders.{flat_local}

none_taken : (n : ℕ) (xs : List ℕ) → xs ≡ [] → take n xs ≡ []
none_taken zero xs none = refl
none_taken (suc n) [] none = refl
none_taken (suc n) (x ∷ xs) none = absurd (cc)

take_split : (n k m : ℕ) (xs : List ℕ) → m ≡ n + k → take m xs ≡ take n xs ++ take k (drop n xs)
take_split zero k m xs sum = ap (λ (i : ℕ). take i xs) (omega (arith, sum))
take_split (suc n) k m [] sum = none_taken m [] refl ∙ sym (none_taken k [] refl)
take_split (suc n) k zero (x ∷ xs) sum = absurd (omega (arith, sum))
take_split (suc n) k (suc m) (x ∷ xs) sum = ap (λ (ys : List ℕ). x ∷ ys) (take_split n k m xs (omega (arith, sum)))

abbrev read_ok : Flat × Ahead → Result (Flat × Ahead) Stopped
read_ok x = Ok x

one_read : (x y : Flat × Ahead) → read_ok x ≡ read_ok y → x ≡ y
one_read x y e = (cc)

-- the bytes from the stop on, up to the limit
abbrev rest_of : Sections → ℕ → ℕ → ℕ → List ℕ
rest_of src offset stop limit = take (limit - stop) (drop (stop - offset) (drop offset src.body))

rest_length : (src : Sections) (offset stop limit : ℕ) → offset ≤ stop → stop ≤ limit → limit ≤ length src.body → length (rest_of src offset stop limit) ≡ limit - stop
rest_length src offset stop limit rises on within =
    length-take-le (limit - stop) (drop (stop - offset) (drop offset src.body)) (omega (arith, length-drop (stop - offset) (drop offset src.body), length-drop offset src.body))

window_on : (src : Sections) (offset stop limit : ℕ) → offset ≤ stop → stop ≤ limit → limit ≤ length src.body → longer (start (window src offset stop)) (rest_of src offset stop limit) ≡ start (window src offset limit)
window_on src offset stop limit rises on within =
    let end : (src.body_at + stop) + length (rest_of src offset stop limit) ≡ src.body_at + limit = omega (arith, rest_length src offset stop limit rises on within) in
    let left : part src.body offset stop ++ rest_of src offset stop limit ≡ part src.body offset limit
    = sym (take_split (stop - offset) (limit - stop) (limit - offset) (drop offset src.body) (omega arith)) in
    λ i. start (record { end = end i; left = left i })

module _ (src : Sections) (holds : HoldsBytes src) where
  abbrev EndsAlike : ℕ → ℕ → Flat → Ahead → Type 0
  EndsAlike offset stop flat a = (b : Ahead) × (flat_at src (start (window src offset stop)) ≡ Ok (flat, b)) × (b.mentions ≡ a.mentions) × (offset_of src b ≡ offset_of src a)

  alike : (offset stop limit : ℕ) → offset ≤ stop → stop ≤ limit → limit ≤ length src.body → (flat : Flat) (a b : Ahead) → flat_at src (start (window src offset limit)) ≡ Ok (flat, a) → flat_at src (start (window src offset stop)) ≡ Ok (flat, b) → EndsAlike offset stop flat a
  alike offset stop limit rises on within flat a b e read =
      let more = rest_of src offset stop limit in
      let on_too : flat_at src (start (window src offset limit)) ≡ Ok (flat, longer b more)
      = ap (flat_at src) (sym (window_on src offset stop limit rises on within)) ∙ (flat_local src).steady.stays (start (window src offset stop)) b flat more read in
      let same : longer b more ≡ a = ap (λ (z : Flat × Ahead). z.1) (one_read (flat, longer b more) (flat, a) (sym on_too ∙ e)) in
      let end : b.spot.end + length more ≡ a.spot.end = ap (λ (a : Ahead). a.spot.end) same in
      let left : length (b.spot.left ++ more) ≡ length a.spot.left = ap (λ (a : Ahead). length a.spot.left) same in
      (b, read, ap (λ (a : Ahead). a.mentions) same, omega (arith, end, left, length-append b.spot.left more))

  pub ends_early : (offset stop limit : ℕ) → stop ≤ limit → limit ≤ length src.body → (flat : Flat) (a : Ahead) → flat_at src (start (window src offset limit)) ≡ Ok (flat, a) → offset_of src a ≤ stop → EndsAlike offset stop flat a
  ends_early offset stop limit on within flat a e ends =
      let s = start (window src offset limit) in
      let tail = behind src.body offset limit in
      let took = flat_took src (strings_are src holds) s (window_fits src offset limit (body_is src holds)) flat a e in
      let less = descriptor_some src (seen_from s []) flat (seen_from a []) (took.stands []) in
      let shorter : length a.spot.left < limit - offset = omega (arith, less, length-append a.spot.left [], length-append (part src.body offset limit) [], part_length src.body offset limit within) in
      let end : offset_of src a ≡ limit - length a.spot.left = omega (arith, took.went.same_end) in
      let rises : offset ≤ stop = omega (arith, shorter, end, ends) in
      let stands : IsDescriptor src (here src offset) flat (seen_from a tail) = subst (λ (x : Here). IsDescriptor src x flat (seen_from a tail)) (here_is src offset limit) (took.stands tail) in
      let short = start (window src offset stop) in
      let last = behind src.body offset stop in
      let there : IsDescriptor src (seen_from short last) flat (seen_from a tail) = subst (λ (x : Here). IsDescriptor src x flat (seen_from a tail)) (sym (here_is src offset stop)) stands in
      let room : length last ≤ length (a.spot.left ++ tail)
      = omega (arith, length-append a.spot.left tail, behind_length src.body offset limit (omega (arith, shorter)) within, behind_length src.body offset stop rises (omega (arith, on, within)), end, ends, shorter) in
      let again = flat_again src short last flat (seen_from a tail) there room in
      alike offset stop limit rises on within flat a again.0 e again.1
