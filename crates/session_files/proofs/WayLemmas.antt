-- What the names of an index come down to, found for all of them at once.
use Rattle.std.proofs.Common.{◌≡◌, ◌⊎◌, ℕ, zero, suc, ◌+◌, ◌<◌, ◌≤◌, List, [], ◌∷◌, ◌++◌, map, length, take, Option, Some, None, slice_get, set, get_or, option_map, option_and_then, refl, sym, ap, ◌∙◌, subst, inl, inr, arith}
use Rattle.std.specs.Prelude.{unwrap_or}
use Rattle.std.proofs.lemmas.Bool.{cases_lt}
use Rattle.std.proofs.lemmas.List.{length-set}
use Rattle.std.proofs.lemmas.Option.{slice_get_within, slice_get-map, get_or_from_slice_get}
use Rattle.code_tables.specs.declared.predeclared.Basic.{Basic}
use Rattle.go_values.specs.declared.qualified.QName.{QName}
use Rattle.decl_spelling.specs.Heads.{Lead, to_basic, to_name}
use Rattle.session_files.specs.Sessions.{Opened, AreSound, IsUnknown, all_listed}
use Rattle.session_files.specs.Names.{lead_at, lead_of, led_by, comes_down_within, comes_down}
use Rattle.session_files.specs.Index.{as_qname, Spot, qname_at}
use Rattle.session_files.specs.Ways.{within_at, basic_at, LeadsOn, IsWay, AreWays, further, settled, LeadsAt, IsFirstWay, AreFirstWays}
use Rattle.session_files.specs.declared.basics.Way.{Way}
use Rattle.session_files.specs.declared.basics.Way.TheVariants.{Known, Next}
use Rattle.session_files.proofs.ComingDown.{found_within, more_heads, down_found}
use Rattle.session_files.proofs.Standing.{not_stood}
use Rattle.session_files.proofs.IndexLemmas.{mapped}

-- ---- one head

pub unknown_none : (files : List Opened) (path name : List ℕ) → IsUnknown files path name → (n : ℕ) → comes_down_within files n path name ≡ None
unknown_none files path name unknown zero = refl
unknown_none files path name unknown (suc n) = ap (λ at. led_by (comes_down_within files n) (option_and_then lead_at at)) (not_stood files path name unknown)

once_more : (files : List Opened) → AreSound files → (path name : List ℕ) → comes_down_within files (suc (length (all_listed files))) path name ≡ comes_down files path name
once_more files sound path name = go (comes_down files path name) refl (comes_down_within files (suc (length (all_listed files))) path name) refl
  where
    go : (a : Option Basic) → comes_down files path name ≡ a → (b : Option Basic) → comes_down_within files (suc (length (all_listed files))) path name ≡ b → b ≡ a
    go (Some x) e b f = sym f ∙ more_heads files (length (all_listed files)) (suc (length (all_listed files))) path name x (omega arith) e
    go None e None f = refl
    go None e (Some x) f =
        let found = down_found files sound path name x (found_within files sound (suc (length (all_listed files))) path name x f) in
        let no : ◌≡◌ {A = Option Basic} None (Some x) = sym e ∙ found in
        absurd cc

led : (files : List Opened) → AreSound files → (path name : List ℕ) (lead : Option Lead) → lead_of files path name ≡ lead → comes_down files path name ≡ led_by (comes_down files) lead
led files sound path name lead is = sym (once_more files sound path name) ∙ ap (led_by (comes_down files)) is

module _ (files : List Opened) (sound : AreSound files) (index : List Spot) (at : Spot) (path name : List ℕ) (named : as_qname path name ≡ qname_at files at) where
  basic_is : (lead : Option Lead) → lead ≡ lead_of files path name → basic_at files at ≡ led_by (comes_down files) lead
  basic_is lead is = ap (λ (q : QName). comes_down files q.path q.name) (sym named) ∙ led files sound path name lead (sym is)

  pub ends_there : (basic : Basic) → Some (to_basic basic) ≡ lead_of files path name → Some basic ≡ basic_at files at
  ends_there basic is = sym (basic_is (Some (to_basic basic)) is)

  pub ends_unknown : (next_path next_name : List ℕ) → Some (to_name next_path next_name) ≡ lead_of files path name → IsUnknown files next_path next_name → None ≡ basic_at files at
  ends_unknown next_path next_name is unknown = sym (basic_is (Some (to_name next_path next_name)) is ∙ unknown_none files next_path next_name unknown (length (all_listed files)))

  pub goes_on : (next_path next_name : List ℕ) (j : ℕ) → Some (to_name next_path next_name) ≡ lead_of files path name → slice_get (map (qname_at files) index) j ≡ Some (as_qname next_path next_name)
      → LeadsAt files index at j
  goes_on next_path next_name j is there =
      let m = mapped (qname_at files) index (as_qname next_path next_name) j there in
      record {
        next = m.x;
        there = m.at;
        on = λ n. let one : n + 1 ≡ suc n = omega arith in
            ap (λ (m : ℕ). within_at files m at) one
            ∙ ap (λ (q : QName). comes_down_within files (suc n) q.path q.name) (sym named)
            ∙ ap (led_by (comes_down_within files n)) (sym is)
            ∙ ap (λ (q : QName). comes_down_within files n q.path q.name) (sym m.is);
        same = basic_is (Some (to_name next_path next_name)) is ∙ ap (λ (q : QName). comes_down files q.path q.name) (sym m.is);
      }

-- ---- lists

some_at : {X : Type 0} (xs : List X) (i : ℕ) → i < length xs → (x : X) × (slice_get xs i ≡ Some x)
some_at [] i lt = absurd (omega arith)
some_at (x ∷ xs) zero lt = (x, refl)
some_at (x ∷ xs) (suc i) lt = some_at xs i (omega arith)

same_maps : {X Y Z : Type 0} (f : X → Z) (g : Y → Z) (xs : List X) (ys : List Y) → length xs ≡ length ys → ((i : ℕ) (x : X) (y : Y) → slice_get xs i ≡ Some x → slice_get ys i ≡ Some y → f x ≡ g y) → map f xs ≡ map g ys
same_maps f g [] [] len same = refl
same_maps f g [] (y ∷ ys) len same = absurd (omega (arith, len))
same_maps f g (x ∷ xs) [] len same = absurd (omega (arith, len))
same_maps {Z = Z} f g (x ∷ xs) (y ∷ ys) len same = ap (λ (z : Z). z ∷ map f xs) (same 0 x y refl refl) ∙ ap (λ zs. g y ∷ zs) (same_maps f g xs ys (omega (arith, len)) (λ i x y at_x at_y. same (suc i) x y at_x at_y))

take_front : {X : Type 0} (xs ys : List X) → take (length xs) (xs ++ ys) ≡ xs
take_front [] ys = refl
take_front (x ∷ xs) ys = ap (λ zs. x ∷ zs) (take_front xs ys)

pub whole : {X : Type 0} (n : ℕ) (xs ys : List X) → length xs ≡ n → take n (xs ++ ys) ≡ xs
whole n xs ys len = subst (λ (n : ℕ). take n (xs ++ ys) ≡ xs) len (take_front xs ys)

-- ---- all ways

abbrev pub in_index : List Opened → List Spot → ℕ → ℕ → Option Basic
in_index files index n i = option_and_then (within_at files n) (slice_get index i)

spot_is : (files : List Opened) (index : List Spot) (n i : ℕ) (at : Spot) → slice_get index i ≡ Some at → in_index files index n i ≡ within_at files n at
spot_is files index n i at there = ap (option_and_then (within_at files n)) there

pub ways_begin : (files : List Opened) (index : List Spot) (ways : List Way) → AreFirstWays files index ways → AreWays (in_index files index) (length (all_listed files)) 1 ways
ways_begin files index ways first i way there = go way there
  where
    at : (way : Way) → slice_get ways i ≡ Some way → (at : Spot) × (slice_get index i ≡ Some at)
    at way there = some_at index i (omega (arith, first.0, slice_get_within ways i way there))

    go : (way : Way) → slice_get ways i ≡ Some way → IsWay (in_index files index) (length (all_listed files)) (length ways) 1 i way
    go (Known basic) there =
        let here = at (Known basic) there in
        first.1 i (Known basic) here.0 there here.1 ∙ sym (spot_is files index (length (all_listed files)) i here.0 here.1)
    go (Next j) there =
        let here = at (Next j) there in
        let leads : LeadsAt files index here.0 j = first.1 i (Next j) here.0 there here.1 in
        record {
          inside = omega (arith, first.0, slice_get_within index j leads.next leads.there);
          heads = 1;
          far = omega arith;
          on = λ n. spot_is files index (n + 1) i here.0 here.1 ∙ leads.on n ∙ sym (spot_is files index n j leads.next leads.there);
          same = spot_is files index (length (all_listed files)) i here.0 here.1 ∙ leads.same ∙ sym (spot_is files index (length (all_listed files)) j leads.next leads.there);
        }

pub ways_end : (files : List Opened) (index : List Spot) (ways : List Way) → length ways ≡ length index → AreWays (in_index files index) (length (all_listed files)) (length (all_listed files)) ways
    → map settled ways ≡ map (basic_at files) index
ways_end files index ways len are = same_maps settled (basic_at files) ways index len each
  where
    each : (i : ℕ) (way : Way) (at : Spot) → slice_get ways i ≡ Some way → slice_get index i ≡ Some at → settled way ≡ basic_at files at
    each i (Known basic) at there here = are i (Known basic) there ∙ spot_is files index (length (all_listed files)) i at here
    each i (Next j) at there here = go (basic_at files at) refl
      where
        nothing : (o : Option Spot) → option_and_then (within_at files 0) o ≡ None
        nothing None = refl
        nothing (Some x) = refl

        go : (b : Option Basic) → basic_at files at ≡ b → None ≡ b
        go None e = refl
        go (Some basic) e =
            let leads : LeadsOn (in_index files index) (length (all_listed files)) (length ways) (length (all_listed files)) i j = are i (Next j) there in
            let found = more_heads files (length (all_listed files)) leads.heads (qname_at files at).path (qname_at files at).name basic leads.far e in
            let none : 0 + leads.heads ≡ leads.heads = omega arith in
            let open_still : in_index files index leads.heads i ≡ None = ap (λ (m : ℕ). in_index files index m i) (sym none) ∙ leads.on 0 ∙ nothing (slice_get index j) in
            let no : ◌≡◌ {A = Option Basic} None (Some basic) = sym open_still ∙ spot_is files index leads.heads i at here ∙ found in
            absurd cc

-- what is found in the index
pub basic_there : (files : List Opened) (index : List Spot) (basics : List (Option Basic)) (place : ℕ) (d : Option Basic) (path name : List ℕ) → basics ≡ map (basic_at files) index
    → slice_get (map (qname_at files) index) place ≡ Some (as_qname path name) → get_or basics place d ≡ comes_down files path name
basic_there files index basics place d path name known there =
    let m = mapped (qname_at files) index (as_qname path name) place there in
    get_or_from_slice_get basics place (basic_at files m.x) d (ap (λ xs. slice_get xs place) known ∙ slice_get-map (basic_at files) index place ∙ ap (option_map (basic_at files)) m.at)
    ∙ ap (λ (q : QName). comes_down files q.path q.name) m.is

-- one way more
pub way_put : (files : List Opened) (index : List Spot) (ways news : List Way) (k : ℕ) (way : Way) (at : Spot) → slice_get index k ≡ Some at → IsFirstWay files index at way → news ≡ ways ++ way ∷ []
    → (length ways ≡ k) × ((i : ℕ) (way : Way) (at : Spot) → slice_get ways i ≡ Some way → slice_get index i ≡ Some at → IsFirstWay files index at way)
    → (length news ≡ k + 1) × ((i : ℕ) (way : Way) (at : Spot) → slice_get news i ≡ Some way → slice_get index i ≡ Some at → IsFirstWay files index at way)
way_put files index ways news k way at there is put so_far = (ap length put ∙ longer ways ∙ omega (arith, so_far.0), each)
  where
    longer : (ws : List Way) → length (ws ++ way ∷ []) ≡ suc (length ws)
    longer [] = refl
    longer (w ∷ ws) = ap suc (longer ws)

    either : (ws : List Way) (i : ℕ) (w : Way) → slice_get (ws ++ way ∷ []) i ≡ Some w → (slice_get ws i ≡ Some w) ⊎ ((i ≡ length ws) × (way ≡ w))
    either [] zero w at = inr (refl, cc)
    either [] (suc i) w at = absurd cc
    either (z ∷ ws) zero w at = inl at
    either (z ∷ ws) (suc i) w at = elim (either ws i w at) [
      | inl before ↦ inl before
      | inr last ↦ inr (ap suc last.0, last.1)
    ]

    each : (i : ℕ) (w : Way) (a : Spot) → slice_get news i ≡ Some w → slice_get index i ≡ Some a → IsFirstWay files index a w
    each i w a at_new at_index = elim (either ways i w (ap (λ ws. slice_get ws i) (sym put) ∙ at_new)) [
      | inl before ↦ so_far.1 i w a before at_index
      | inr last ↦
          let here : slice_get index k ≡ Some a = ap (slice_get index) (sym (last.0 ∙ so_far.0)) ∙ at_index in
          subst (IsFirstWay files index a) last.1 (subst (λ (a : Spot). IsFirstWay files index a way) (some_spot (sym there ∙ here)) is)
    ]
      where
        some_spot : {a b : Spot} → Some a ≡ Some b → a ≡ b
        some_spot e = cc

pub ways_settled : (files : List Opened) (index : List Spot) (first ways : List Way) (count : ℕ) (basics : List (Option Basic)) → AreFirstWays files index first → count ≡ length (all_listed files)
    → length ways ≡ length first → ((within : ℕ → ℕ → Option Basic) (limit : ℕ) → AreWays within limit 1 first → AreWays within limit count ways) → basics ≡ map settled ways
    → basics ≡ map (basic_at files) index
ways_settled files index first ways count basics begin counted len followed is =
    is ∙ ways_end files index ways (len ∙ begin.0) (subst (λ (n : ℕ). AreWays (in_index files index) (length (all_listed files)) n ways) counted (followed (in_index files index) (length (all_listed files)) (ways_begin files index first begin)))

-- ---- one round

module _ (within : ℕ → ℕ → Option Basic) (limit : ℕ) where
  pub nearer : (ways : List Way) (a b : ℕ) → b ≤ a → AreWays within limit a ways → AreWays within limit b ways
  nearer ways a b le are i way there = go way (are i way there)
    where
      go : (way : Way) → IsWay within limit (length ways) a i way → IsWay within limit (length ways) b i way
      go (Known basic) is = is
      go (Next j) is = record { inside = is.inside; heads = is.heads; far = omega (arith, is.far); on = is.on; same = is.same }

  further_is : (ways : List Way) (reach : ℕ) → AreWays within limit reach ways → (k : ℕ) (way : Way) → slice_get ways k ≡ Some way → IsWay within limit (length ways) (reach + reach) k (further ways way)
  further_is ways reach are k (Known basic) there = are k (Known basic) there
  further_is ways reach are k (Next j) there = go (some_at ways j leads.inside)
    where
      leads : LeadsOn within limit (length ways) reach k j
      leads = are k (Next j) there

      go : ((w : Way) × (slice_get ways j ≡ Some w)) → IsWay within limit (length ways) (reach + reach) k (further ways (Next j))
      go (w, next) = subst (IsWay within limit (length ways) (reach + reach) k) (ap (λ o. unwrap_or o (Next j)) (sym next)) (on w next)
        where
          on : (w : Way) → slice_get ways j ≡ Some w → IsWay within limit (length ways) (reach + reach) k w
          on (Known basic) next = are j (Known basic) next ∙ sym leads.same
          on (Next l) next =
              let later : LeadsOn within limit (length ways) reach j l = are j (Next l) next in
              record {
                inside = later.inside;
                heads = later.heads + leads.heads;
                far = omega (arith, later.far, leads.far);
                on = λ n. let sum : n + (later.heads + leads.heads) ≡ (n + later.heads) + leads.heads = omega arith in
                    ap (λ (m : ℕ). within m k) sum ∙ leads.on (n + later.heads) ∙ later.on n;
                same = leads.same ∙ later.same;
              }

  -- all ways, of which the first so many have been taken on
  pub record AreTakenOn (reach i : ℕ) (ways : List Way) : Type 0 where
    pub all : AreWays within limit reach ways
    pub done : (k : ℕ) (way : Way) → k < i → slice_get ways k ≡ Some way → IsWay within limit (length ways) (reach + reach) k way

  pub none_taken_on : (ways : List Way) (reach : ℕ) → AreWays within limit reach ways → AreTakenOn reach 0 ways
  none_taken_on ways reach are = record { all = are; done = λ k way lt. absurd (omega (arith, lt)) }

  set_there : {X : Type 0} (xs : List X) (i k : ℕ) (x y : X) → slice_get (set xs i x) k ≡ Some y → ((k ≡ i) × (x ≡ y)) ⊎ ((k ≡ i → ⊥) × (slice_get xs k ≡ Some y))
  set_there [] i k x y at = absurd cc
  set_there (z ∷ xs) zero zero x y at = inl (refl, cc)
  set_there (z ∷ xs) zero (suc k) x y at = inr ((λ same. omega (arith, same)), at)
  set_there (z ∷ xs) (suc i) zero x y at = inr ((λ same. omega (arith, same)), at)
  set_there (z ∷ xs) (suc i) (suc k) x y at = elim (set_there xs i k x y at) [
    | inl here ↦ inl (ap suc here.0, here.1)
    | inr other ↦ inr ((λ same. other.0 (omega (arith, same))), other.1)
  ]

  pub one_more : (ways news : List Way) (reach i : ℕ) (way : Way) → slice_get ways i ≡ Some way → news ≡ set ways i (further ways way) → AreTakenOn reach i ways → AreTakenOn reach (i + 1) news
  one_more ways news reach i way there put so_far = subst (AreTakenOn reach (i + 1)) (sym put) (record { all = all; done = done })
    where
      below : (k i : ℕ) → k < i + 1 → (k ≡ i → ⊥) → k < i
      below k i lt apart = elim (cases_lt k i) [
        | inl before ↦ before
        | inr past ↦ absurd (apart (omega (arith, lt, past)))
      ]

      len : length (set ways i (further ways way)) ≡ length ways
      len = length-set ways i (further ways way)

      far : IsWay within limit (length ways) (reach + reach) i (further ways way)
      far = further_is ways reach so_far.all i way there

      weaker : (k : ℕ) (w : Way) → IsWay within limit (length ways) (reach + reach) k w → IsWay within limit (length ways) reach k w
      weaker k (Known basic) is = is
      weaker k (Next j) is = record { inside = is.inside; heads = is.heads; far = omega (arith, is.far); on = is.on; same = is.same }

      all : AreWays within limit reach (set ways i (further ways way))
      all k w at = subst (λ (n : ℕ). IsWay within limit n reach k w) (sym len) (elim (set_there ways i k (further ways way) w at) [
        | inl here ↦ weaker k w (subst (IsWay within limit (length ways) (reach + reach) k) here.1 (subst (λ (k : ℕ). IsWay within limit (length ways) (reach + reach) k (further ways way)) (sym here.0) far))
        | inr other ↦ so_far.all k w other.1
      ])

      done : (k : ℕ) (w : Way) → k < i + 1 → slice_get (set ways i (further ways way)) k ≡ Some w → IsWay within limit (length (set ways i (further ways way))) (reach + reach) k w
      done k w lt at = subst (λ (n : ℕ). IsWay within limit n (reach + reach) k w) (sym len) (elim (set_there ways i k (further ways way) w at) [
        | inl here ↦ subst (IsWay within limit (length ways) (reach + reach) k) here.1 (subst (λ (k : ℕ). IsWay within limit (length ways) (reach + reach) k (further ways way)) (sym here.0) far)
        | inr other ↦ so_far.done k w (let apart = other.0 in below k i lt apart) other.1
      ])
