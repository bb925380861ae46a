-- The list of starts rises, and counts line feeds.
use Rattle.std.proofs.Common.{◌≡◌, ◌≤◌, ◌<◌, ◌+◌, ◌-◌, ℕ, zero, suc, Bool, true, false, cond, List, [], ◌∷◌, ◌++◌, length, take, drop, get_or, sym, ap, ◌∙◌, refl, ⊎_elim, arith, max, eqb, leb, append_assoc, append-nil}
use Rattle.std.proofs.lemmas.Bool.Decides.{nat_tests}
use Rattle.std.proofs.lemmas.Bool.{cases_lt}
use Rattle.std.proofs.Math.Seq.{drop-cons}
use Rattle.std.proofs.lemmas.List.{length-drop}
use Rattle.source_positions.specs.Positions.{line_feed, line_feeds, without_last}
use Rattle.source_positions.specs.Lines.{starts_in, line_starts, start_behind, Rises, AreStarts, Cuts}

-- the starts rise
rise_by : (t : Bool) (below at : ℕ) (more : List ℕ) → below ≤ at → Rises (suc at) more → Rises below more → Rises below (cond t (suc at ∷ more) more)
rise_by true below at more l h k = (omega arith, h)
rise_by false below at more l h k = k

rise_in : (at : ℕ) (bs : List ℕ) (below : ℕ) → below ≤ at → Rises below (starts_in at bs)
rise_in at [] below l = tt
rise_in at (b ∷ []) below l = tt
rise_in at (b ∷ c ∷ bs) below l =
    rise_by (eqb b line_feed) below at (starts_in (suc at) (c ∷ bs)) l (rise_in (suc at) (c ∷ bs) (suc at) (omega arith)) (rise_in (suc at) (c ∷ bs) below (omega arith))

pub starts_rise : (source : List ℕ) → AreStarts (line_starts source)
starts_rise source = (refl, rise_in 0 source 0 (omega arith))

above : (below : ℕ) (xs : List ℕ) → Rises below xs → (j : ℕ) → j < length xs → below < get_or xs j 0
above below [] h j l = absurd (omega arith)
above below (x ∷ xs) h zero l = h.0
above below (x ∷ xs) h (suc j) l = let k : x < get_or xs j 0 = above x xs h.1 j (omega arith) in omega (arith, h.0, k)

ordered_from : (x : ℕ) (xs : List ℕ) → Rises x xs → (i j : ℕ) → i ≤ j → j < length (x ∷ xs) → get_or (x ∷ xs) i 0 ≤ get_or (x ∷ xs) j 0
ordered_from x xs h zero zero le l = omega arith
ordered_from x xs h zero (suc j) le l = let k : x < get_or xs j 0 = above x xs h j (omega arith) in omega (arith, k)
ordered_from x xs h (suc i) zero le l = absurd (omega arith)
ordered_from x [] h (suc i) (suc j) le l = absurd (omega arith)
ordered_from x (y ∷ ys) h (suc i) (suc j) le l = ordered_from y ys h.1 i j (omega arith) (omega arith)

pub ordered : (xs : List ℕ) → AreStarts xs → (i j : ℕ) → i ≤ j → j < length xs → get_or xs i 0 ≤ get_or xs j 0
ordered [] h i j le l = absurd h
ordered (x ∷ xs) h i j le l = ordered_from x xs h.1 i j le l

pub first_zero : (xs : List ℕ) → AreStarts xs → (0 < length xs) × (get_or xs 0 0 ≡ 0)
first_zero [] h = absurd h
first_zero (x ∷ xs) h = (omega arith, h.0)

-- how many starts are at most the offset
abbrev up_to : ℕ → List ℕ → ℕ
up_to n [] = 0
up_to n (x ∷ xs) = cond (leb x n) (suc (up_to n xs)) (up_to n xs)

place_is : (offset : ℕ) (xs : List ℕ) (n : ℕ) → n ≤ length xs → ((k : ℕ) → k < n → get_or xs k 0 ≤ offset) → ((k : ℕ) → n ≤ k → k < length xs → offset < get_or xs k 0) → n ≡ up_to offset xs
place_is offset [] zero few low high = refl
place_is offset [] (suc n) few low high = absurd (omega arith)
place_is offset (x ∷ xs) zero few low high =
    let over : offset < x = high 0 (omega arith) (omega arith) in
    let test : leb x offset ≡ false = grind (arith, nat_tests) in
    place_is offset xs zero (omega arith) (λ k l. absurd (omega (arith, l))) (λ k l m. high (suc k) (omega arith) (omega (arith, m)))
    ∙ sym (ap (λ t. cond t (suc (up_to offset xs)) (up_to offset xs)) test)
place_is offset (x ∷ xs) (suc n) few low high =
    let under : x ≤ offset = low 0 (omega arith) in
    let test : leb x offset ≡ true = grind (arith, nat_tests) in
    ap suc (place_is offset xs n (omega arith) (λ k l. low (suc k) (omega (arith, l))) (λ k l m. high (suc k) (omega (arith, l)) (omega (arith, m))))
    ∙ sym (ap (λ t. cond t (suc (up_to offset xs)) (up_to offset xs)) test)

feeds_none : (n : ℕ) → line_feeds (take n []) ≡ 0
feeds_none zero = refl
feeds_none (suc n) = refl

feeds_zero : (n : ℕ) (bs : List ℕ) → n ≡ 0 → line_feeds (take n bs) ≡ 0
feeds_zero zero bs e = refl
feeds_zero (suc n) bs e = absurd (omega arith)

low_by : (t : Bool) (offset at : ℕ) (more : List ℕ) → offset ≤ at → up_to offset more ≡ 0 → up_to offset (cond t (suc at ∷ more) more) ≡ 0
low_by true offset at more l h = let test : leb (suc at) offset ≡ false = grind (arith, nat_tests) in ap (λ t. cond t (suc (up_to offset more)) (up_to offset more)) test ∙ h
low_by false offset at more l h = h

high_by : (t : Bool) (offset at n : ℕ) (more : List ℕ) → at < offset → up_to offset more ≡ n → up_to offset (cond t (suc at ∷ more) more) ≡ cond t (1 + n) n
high_by true offset at n more l h =
    let test : leb (suc at) offset ≡ true = grind (arith, nat_tests) in
    ap (λ t. cond t (suc (up_to offset more)) (up_to offset more)) test ∙ (let k : suc (up_to offset more) ≡ 1 + n = omega (arith, h) in k)
high_by false offset at n more l h = h

feeds_are : (offset at : ℕ) (bs : List ℕ) → up_to offset (starts_in at bs) ≡ line_feeds (take (offset - at) (without_last bs))
feeds_are offset at [] = sym (feeds_none (offset - at))
feeds_are offset at (b ∷ []) = sym (feeds_none (offset - at))
feeds_are offset at (b ∷ c ∷ bs) =
    let more : List ℕ = starts_in (suc at) (c ∷ bs) in
    let left : List ℕ = without_last (c ∷ bs) in
    let again : up_to offset more ≡ line_feeds (take (offset - suc at) left) = feeds_are offset (suc at) (c ∷ bs) in
    ⊎_elim
    (λ (l : at < offset).
    let one : offset - at ≡ suc (offset - suc at) = omega arith in
    high_by (eqb b line_feed) offset at (line_feeds (take (offset - suc at) left)) more l again ∙ sym (ap (λ n. line_feeds (take n (b ∷ left))) one))
    (λ (l : offset ≤ at).
    low_by (eqb b line_feed) offset at more l (again ∙ feeds_zero (offset - suc at) left (omega arith)) ∙ sym (feeds_zero (offset - at) (b ∷ left) (omega arith)))
    (cases_lt at offset)

pub line_is : (source : List ℕ) (offset n : ℕ) → Cuts (line_starts source) offset n → n ≡ 1 + line_feeds (take offset (without_last source))
line_is source offset n c =
    let counted : n ≡ up_to offset (line_starts source) = place_is offset (line_starts source) n c.few c.low c.high in
    let test : leb 0 offset ≡ true = grind (arith, nat_tests) in
    let first : up_to offset (line_starts source) ≡ suc (up_to offset (starts_in 0 source)) = ap (λ t. cond t (suc (up_to offset (starts_in 0 source))) (up_to offset (starts_in 0 source))) test in
    let whole : offset - 0 ≡ offset = omega arith in
    let feeds : up_to offset (starts_in 0 source) ≡ line_feeds (take offset (without_last source)) = feeds_are offset 0 source ∙ ap (λ m. line_feeds (take m (without_last source))) whole in
    omega (arith, counted, first, feeds)

-- the loop that finds them
starts_short : (at : ℕ) (bs : List ℕ) → length bs ≤ 1 → starts_in at bs ≡ []
starts_short at [] l = refl
starts_short at (b ∷ []) l = refl
starts_short at (b ∷ c ∷ bs) l = absurd (omega arith)

two : (at b : ℕ) (bs : List ℕ) → 0 < length bs → starts_in at (b ∷ bs) ≡ cond (eqb b line_feed) (suc at ∷ starts_in (suc at) bs) (starts_in (suc at) bs)
two at b [] l = absurd (omega arith)
two at b (c ∷ bs) l = refl

noted : (t : Bool) (at : ℕ) (more : List ℕ) → cond t (at ∷ more) more ≡ cond t (at ∷ []) [] ++ more
noted true at more = refl
noted false at more = refl

pub starts_step : (source : List ℕ) (at before : ℕ) → at ≡ suc before → at < length source → starts_in before (drop before source) ≡ start_behind (get_or source before 0) at ++ starts_in at (drop at source)
starts_step source at before e l =
    let head : drop before source ≡ get_or source before 0 ∷ drop (suc before) source = drop-cons source before 0 (omega arith) in
    let long : 0 < length (drop (suc before) source) = omega (arith, length-drop (suc before) source) in
    ap (starts_in before) head ∙ two before (get_or source before 0) (drop (suc before) source) long
    ∙ ap (λ k. cond (eqb (get_or source before 0) line_feed) (k ∷ starts_in k (drop k source)) (starts_in k (drop k source))) (sym e)
    ∙ noted (eqb (get_or source before 0) line_feed) at (starts_in at (drop at source))

pub starts_end : (source : List ℕ) (before : ℕ) → length source ≤ suc before → starts_in before (drop before source) ≡ []
starts_end source before l = starts_short before (drop before source) (omega (arith, length-drop before source))

-- there are no more lines than bytes, but for the first
few_by : (t : Bool) (at n : ℕ) (more : List ℕ) → length more ≤ n → length (cond t (suc at ∷ more) more) ≤ suc n
few_by true at n more l = omega arith
few_by false at n more l = omega arith

few_in : (at b : ℕ) (bs : List ℕ) → length (starts_in at (b ∷ bs)) ≤ length bs
few_in at b [] = omega arith
few_in at b (c ∷ bs) = few_by (eqb b line_feed) at (length bs) (starts_in (suc at) (c ∷ bs)) (few_in (suc at) c bs)

pub starts_few : (source : List ℕ) → length (line_starts source) ≤ max 1 (length source)
starts_few [] = omega arith
starts_few (b ∷ bs) = let k = few_in 0 b bs in omega (arith, k)

strict_from : (x : ℕ) (xs : List ℕ) → Rises x xs → (i j : ℕ) → i < j → j < length (x ∷ xs) → get_or (x ∷ xs) i 0 < get_or (x ∷ xs) j 0
strict_from x xs h i zero le l = absurd (omega arith)
strict_from x xs h zero (suc j) le l = above x xs h j (omega arith)
strict_from x [] h (suc i) (suc j) le l = absurd (omega arith)
strict_from x (y ∷ ys) h (suc i) (suc j) le l = strict_from y ys h.1 i j (omega arith) (omega arith)

strict : (xs : List ℕ) → AreStarts xs → (i j : ℕ) → i < j → j < length xs → get_or xs i 0 < get_or xs j 0
strict [] h i j le l = absurd h
strict (x ∷ xs) h i j le l = strict_from x xs h.1 i j le l

-- what a search finds
pub cut_at : (starts : List ℕ) (offset i : ℕ) → AreStarts starts → i < length starts → get_or starts i 0 ≡ offset → Cuts starts offset (i + 1)
cut_at starts offset i a l e = record {
  some = omega arith;
  few = omega arith;
  low = λ k h. let up : get_or starts k 0 ≤ get_or starts i 0 = ordered starts a k i (omega (arith, h)) l in omega (arith, up, e);
  high = λ k h m. let up : get_or starts i 0 < get_or starts k 0 = strict starts a i k (omega (arith, h)) m in omega (arith, up, e);
}

pub cut_before : (starts : List ℕ) (offset i : ℕ) → AreStarts starts → i ≤ length starts → ((k : ℕ) → k < i → get_or starts k 0 < offset) → ((k : ℕ) → i ≤ k → k < length starts → offset < get_or starts k 0) → Cuts starts offset i
cut_before starts offset i a l low high = record {
  some = ⊎_elim (λ (h : 0 < i). h) (λ (h : i ≤ 0). let z = first_zero starts a in let over : offset < get_or starts 0 0 = high 0 h z.0 in absurd (omega (arith, over, z.1))) (cases_lt 0 i);
  few = l;
  low = λ k h. let under : get_or starts k 0 < offset = low k h in omega (arith, under);
  high = high;
}

-- the loop goes on, and ends
pub goes_on : (old new source all : List ℕ) (at : ℕ) → 1 ≤ at → at < length source → new ≡ old ++ start_behind (get_or source (at - 1) 0) at → old ++ starts_in (at - 1) (drop (at - 1) source) ≡ all → new ++ starts_in (at + 1 - 1) (drop (at + 1 - 1) source) ≡ all
goes_on old new source all at some l e h =
    let one : at ≡ suc (at - 1) = omega arith in
    let same : at + 1 - 1 ≡ at = omega arith in
    let here : List ℕ = start_behind (get_or source (at - 1) 0) at in
    ap (λ k. new ++ starts_in k (drop k source)) same ∙ ap (λ x. x ++ starts_in at (drop at source)) e ∙ append_assoc old here (starts_in at (drop at source))
    ∙ ap (λ x. old ++ x) (sym (starts_step source at (at - 1) one l)) ∙ h

pub is_done : (old source all : List ℕ) (at : ℕ) → 1 ≤ at → length source ≤ at → old ++ starts_in (at - 1) (drop (at - 1) source) ≡ all → old ≡ all
is_done old source all at some l h = sym (append-nil old) ∙ ap (λ x. old ++ x) (sym (starts_end source (at - 1) (omega arith))) ∙ h
