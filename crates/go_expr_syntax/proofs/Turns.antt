-- The turns of loops that read series and chains.
use Rattle.std.proofs.Common.{◌≡◌, ℕ, ◌<◌, ◌≤◌, min, Bool, true, false, List, [], ◌∷◌, ◌++◌, length, Ok, Err, refl, sym, ap, ◌∙◌, append_assoc, arith}
use Rattle.std.proofs.lemmas.List.{append-nil}
use Rattle.go_expr_syntax.specs.declared.symbols.Symbol.{Symbol}
use Rattle.go_expr_syntax.specs.declared.faults.Fault.{Fault}
use Rattle.go_expr_syntax.specs.declared.faults.Stop.{Stop}
use Rattle.go_expr_syntax.specs.declared.faults.Stop.TheVariants as stop
use Rattle.go_expr_syntax.specs.Reading.{Reply, ◌>>=◌, past, is_semicolon, ListForm, series_by, series, rows, row, chain_by, chain, Fit, fitting, with_fit, Fails}
use Rattle.go_expr_syntax.proofs.Rows.{Eats, series_is, chain_is, past_shorter}

-- what is made of what is read
abbrev pub through : {Y Z : Type 0} → (Y → Z) → Reply Y → Reply Z
through f read = read >>= λ ys. Ok (f ys.0, ys.1)

abbrev pub gives : {Z : Type 0} → Z → List Symbol → Reply Z
gives z rest = Ok (z, rest)

pub through_twice : {X Y Z : Type 0} (g : X → Y) (f : Y → Z) (read : Reply X) → through f (read >>= λ xs. Ok (g xs.0, xs.1)) ≡ through (λ x. f (g x)) read
through_twice g f (Ok z) = refl
through_twice g f (Err e) = refl

pub through_same : {Y Z : Type 0} (f g : Y → Z) (read : Reply Y) → ((y : Y) → f y ≡ g y) → through f read ≡ through g read
through_same f g (Ok z) h = ap (λ x. gives x z.1) (h z.0)
through_same f g (Err e) h = refl

-- ---- series

module _ {X Y Z : Type 0} (S : ListForm X Y) (one : List Symbol → Reply X) (eats_one : Eats one) (f : Y → Z) where
  opens : (rest : List Symbol) → through f (series S one rest) ≡ through f (series_by S one (series S one) rest)
  opens rest = ap (through f) (series_is S one eats_one rest)

  pub series_closed : (rest after : List Symbol) (total : Reply Z) → past S.closes rest ≡ Ok after → through f (series S one rest) ≡ total → total ≡ Ok (f S.nil, after)
  series_closed rest after total e so =
      let here : through f (series_by S one (series S one) rest) ≡ Ok (f S.nil, after) = rw e refl in
      sym so ∙ opens rest ∙ here

  pub series_fails : (rest : List Symbol) (g e : Fault) (total : Reply Z) → past S.closes rest ≡ Err g → one rest ≡ Err e → through f (series S one rest) ≡ total → total ≡ Err e
  series_fails rest g e total p h so =
      let here : through f (series_by S one (series S one) rest) ≡ Err e = rw (p, h) refl in
      sym so ∙ opens rest ∙ here

  pub series_stops : (rest : List Symbol) (g : Fault) (s : Stop) (total : Reply Z) → past S.closes rest ≡ Err g → Fails s (one rest) → through f (series S one rest) ≡ total → Fails s total
  series_stops rest g stop.OutOfMemory total p h so = tt
  series_stops rest g (stop.At e) total p h so = series_fails rest g e total p h so

  pub series_last : (rest : List Symbol) (g : Fault) (x : X) (us after : List Symbol) (total : Reply Z) → past S.closes rest ≡ Err g → one rest ≡ Ok (x, us) → past S.closes us ≡ Ok after
      → through f (series S one rest) ≡ total → total ≡ Ok (f (S.cons x S.nil), after)
  series_last rest g x us after total p h q so =
      let here : through f (series_by S one (series S one) rest) ≡ Ok (f (S.cons x S.nil), after) = rw (p, h, q) refl in
      sym so ∙ opens rest ∙ here

  pub series_stuck : (rest : List Symbol) (g : Fault) (x : X) (us : List Symbol) (d e : Fault) (total : Reply Z) → past S.closes rest ≡ Err g → one rest ≡ Ok (x, us) → past S.closes us ≡ Err d → past S.sep us ≡ Err e
      → through f (series S one rest) ≡ total → total ≡ Err e
  series_stuck rest g x us d e total p h q s so =
      let here : through f (series_by S one (series S one) rest) ≡ Err e = rw (p, h, q, s) refl in
      sym so ∙ opens rest ∙ here

  pub series_goes : (rest : List Symbol) (g : Fault) (x : X) (us vs : List Symbol) (d : Fault) (total : Reply Z) → S.final x ≡ false → past S.closes rest ≡ Err g → one rest ≡ Ok (x, us) → past S.closes us ≡ Err d → past S.sep us ≡ Ok vs
      → through f (series S one rest) ≡ total → through (λ ys. f (S.cons x ys)) (series S one vs) ≡ total
  series_goes rest g x us vs d total l p h q s so =
      let here : through f (series_by S one (series S one) rest) ≡ through (λ ys. f (S.cons x ys)) (series S one vs) = rw (p, h, q, s, l) (through_twice (S.cons x) f (series S one vs)) in
      sym here ∙ sym (opens rest) ∙ so

  pub series_ends : (rest : List Symbol) (g : Fault) (x : X) (us vs after : List Symbol) (d : Fault) (total : Reply Z) → S.final x ≡ true → past S.closes rest ≡ Err g → one rest ≡ Ok (x, us) → past S.closes us ≡ Err d → past S.sep us ≡ Ok vs
      → past S.closes vs ≡ Ok after → through f (series S one rest) ≡ total → total ≡ Ok (f (S.cons x S.nil), after)
  series_ends rest g x us vs after d total l p h q s c so =
      let here : through f (series_by S one (series S one) rest) ≡ Ok (f (S.cons x S.nil), after) = rw (p, h, q, s, l, c) refl in
      sym so ∙ opens rest ∙ here

  pub series_refuses : (rest : List Symbol) (g : Fault) (x : X) (us vs : List Symbol) (d e : Fault) (total : Reply Z) → S.final x ≡ true → past S.closes rest ≡ Err g → one rest ≡ Ok (x, us) → past S.closes us ≡ Err d → past S.sep us ≡ Ok vs
      → past S.closes vs ≡ Err e → through f (series S one rest) ≡ total → total ≡ Err e
  series_refuses rest g x us vs d e total l p h q s c so =
      let here : through f (series_by S one (series S one) rest) ≡ Err e = rw (p, h, q, s, l, c) refl in
      sym so ∙ opens rest ∙ here

pub series_smaller : {X : Type 0} (sep : Symbol → Bool) (one : List Symbol → Reply X) → Eats one → (rest : List Symbol) (x : X) (us vs : List Symbol) → one rest ≡ Ok (x, us) → past sep us ≡ Ok vs → length vs < length rest
series_smaller sep one eats_one rest x us vs h q =
    let a : length us < length rest = eats_one rest (x, us) h in
    let b : length vs < length us = past_shorter sep us vs q in
    omega arith

-- ---- rows

-- what was read before, and what is still read
abbrev pub with_front : {X : Type 0} → List X → Reply (List X) → Reply (List X)
with_front front read = read >>= λ xs. Ok (front ++ xs.0, xs.1)

abbrev pub so_far : {X : Type 0} → (Symbol → Bool) → (List Symbol → Reply X) → List X → List Symbol → Reply (List X)
so_far closes one found rest = with_front found (row closes one rest)

pub regroup : {X : Type 0} (front : List X) (x : X) (read : Reply (List X)) → with_front front (read >>= λ xs. Ok (x ∷ xs.0, xs.1)) ≡ with_front (front ++ x ∷ []) read
regroup front x (Ok z) = ap (λ (xs : List _). Ok (xs, z.1)) (simp append_assoc)
regroup front x (Err f) = refl

module _ {X : Type 0} (closes : Symbol → Bool) (one : List Symbol → Reply X) (eats_one : Eats one) (found : List X) where
  pub turn_closed : (rest after : List Symbol) (total : Reply (List X)) → past closes rest ≡ Ok after → so_far closes one found rest ≡ total → total ≡ Ok (found, after)
  turn_closed rest after total e so = series_closed (rows closes) one eats_one (λ xs. found ++ xs) rest after total e so ∙ ap (λ xs. gives xs after) (append-nil found)

  pub turn_fails : (rest : List Symbol) (g f : Fault) (total : Reply (List X)) → past closes rest ≡ Err g → one rest ≡ Err f → so_far closes one found rest ≡ total → total ≡ Err f
  turn_fails rest g f total e h so = series_fails (rows closes) one eats_one (λ xs. found ++ xs) rest g f total e h so

  pub turn_stops : (rest : List Symbol) (g : Fault) (s : Stop) (total : Reply (List X)) → past closes rest ≡ Err g → Fails s (one rest) → so_far closes one found rest ≡ total → Fails s total
  turn_stops rest g s total e h so = series_stops (rows closes) one eats_one (λ xs. found ++ xs) rest g s total e h so

  pub turn_last : (rest : List Symbol) (g : Fault) (x : X) (us after : List Symbol) (total : Reply (List X)) → past closes rest ≡ Err g → one rest ≡ Ok (x, us) → past closes us ≡ Ok after → so_far closes one found rest ≡ total
      → total ≡ Ok (found ++ x ∷ [], after)
  turn_last rest g x us after total e h p so = series_last (rows closes) one eats_one (λ xs. found ++ xs) rest g x us after total e h p so

  pub turn_stuck : (rest : List Symbol) (g : Fault) (x : X) (us : List Symbol) (d f : Fault) (total : Reply (List X)) → past closes rest ≡ Err g → one rest ≡ Ok (x, us) → past closes us ≡ Err d → past is_semicolon us ≡ Err f
      → so_far closes one found rest ≡ total → total ≡ Err f
  turn_stuck rest g x us d f total e h p q so = series_stuck (rows closes) one eats_one (λ xs. found ++ xs) rest g x us d f total e h p q so

  pub turn_more : (rest : List Symbol) (g : Fault) (x : X) (us vs : List Symbol) (d : Fault) (total : Reply (List X)) → past closes rest ≡ Err g → one rest ≡ Ok (x, us) → past closes us ≡ Err d → past is_semicolon us ≡ Ok vs
      → so_far closes one found rest ≡ total → so_far closes one (found ++ x ∷ []) vs ≡ total
  turn_more rest g x us vs d total e h p q so =
      through_same (λ xs. (found ++ x ∷ []) ++ xs) (λ xs. found ++ x ∷ xs) (row closes one vs) (λ xs. simp append_assoc)
      ∙ series_goes (rows closes) one eats_one (λ xs. found ++ xs) rest g x us vs d total refl e h p q so

pub turn_smaller : {X : Type 0} (one : List Symbol → Reply X) → Eats one → (rest : List Symbol) (x : X) (us vs : List Symbol) → one rest ≡ Ok (x, us) → past is_semicolon us ≡ Ok vs → length vs < length rest
turn_smaller one eats_one rest x us vs h q = series_smaller is_semicolon one eats_one rest x us vs h q

-- ---- series of trees

module _ {X Y : Type 0} (n : ℕ) (sep closes : Symbol → Bool) (final : X → Bool) (tree : X → Y) (fit : X → ℕ) (one : List Symbol → Reply X) (eats_one : Eats one) (found : List Y) (k : ℕ) where
  abbrev pair : List Y → ℕ → Fit (List Y)
  pair ys j = (ys, j)

  joined : (front : List Y) (j : ℕ) (x : X) (ys : Fit (List Y)) → pair ((front ++ tree x ∷ []) ++ ys.0) (min (min j (fit x)) ys.1) ≡ pair (front ++ tree x ∷ ys.0) (min j (min (fit x) ys.1))
  joined front j x ys = let e : min (min j (fit x)) ys.1 ≡ min j (min (fit x) ys.1) = omega arith in ap (λ zs. pair zs (min (min j (fit x)) ys.1)) (append_assoc front (tree x ∷ []) ys.0) ∙ ap (pair (front ++ tree x ∷ ys.0)) e

  abbrev pub fit_so_far : List Symbol → Reply (Fit (List Y))
  fit_so_far rest = with_fit (found, k) (series (fitting n sep closes final tree fit) one rest)

  -- what was found, and an item
  abbrev added : X → Fit (List Y)
  added x = (found ++ tree x ∷ [], min k (fit x))

  at_end : (x : X) (after : List Symbol) → k ≤ n → gives (found ++ tree x ∷ [], min k (min (fit x) n)) after ≡ gives (added x) after
  at_end x after le = ap (λ j. gives (found ++ tree x ∷ [], j) after) (omega arith)

  pub fit_closed : (rest after : List Symbol) (total : Reply (Fit (List Y))) → k ≤ n → past closes rest ≡ Ok after → fit_so_far rest ≡ total → total ≡ Ok ((found, k), after)
  fit_closed rest after total le e so =
      let small : min k n ≡ k = omega arith in
      series_closed (fitting n sep closes final tree fit) one eats_one (λ ys. (found ++ ys.0, min k ys.1)) rest after total e so ∙ ap (λ ys. gives (ys, min k n) after) (append-nil found) ∙ ap (λ j. gives (found, j) after) small

  pub fit_stops : (rest : List Symbol) (g : Fault) (s : Stop) (total : Reply (Fit (List Y))) → past closes rest ≡ Err g → Fails s (one rest) → fit_so_far rest ≡ total → Fails s total
  fit_stops rest g s total e h so = series_stops (fitting n sep closes final tree fit) one eats_one (λ ys. (found ++ ys.0, min k ys.1)) rest g s total e h so

  pub fit_last : (rest : List Symbol) (g : Fault) (x : X) (us after : List Symbol) (total : Reply (Fit (List Y))) → k ≤ n → past closes rest ≡ Err g → one rest ≡ Ok (x, us) → past closes us ≡ Ok after → fit_so_far rest ≡ total
      → total ≡ Ok (added x, after)
  fit_last rest g x us after total le e h p so = series_last (fitting n sep closes final tree fit) one eats_one (λ ys. (found ++ ys.0, min k ys.1)) rest g x us after total e h p so ∙ at_end x after le

  pub fit_stuck : (rest : List Symbol) (g : Fault) (x : X) (us : List Symbol) (d f : Fault) (total : Reply (Fit (List Y))) → past closes rest ≡ Err g → one rest ≡ Ok (x, us) → past closes us ≡ Err d → past sep us ≡ Err f
      → fit_so_far rest ≡ total → total ≡ Err f
  fit_stuck rest g x us d f total e h p q so = series_stuck (fitting n sep closes final tree fit) one eats_one (λ ys. (found ++ ys.0, min k ys.1)) rest g x us d f total e h p q so

  pub fit_goes : (rest : List Symbol) (g : Fault) (x : X) (us vs : List Symbol) (d : Fault) (total : Reply (Fit (List Y))) → final x ≡ false → past closes rest ≡ Err g → one rest ≡ Ok (x, us) → past closes us ≡ Err d → past sep us ≡ Ok vs
      → fit_so_far rest ≡ total → with_fit (found ++ tree x ∷ [], min k (fit x)) (series (fitting n sep closes final tree fit) one vs) ≡ total
  fit_goes rest g x us vs d total l e h p q so =
      through_same (λ ys. ((found ++ tree x ∷ []) ++ ys.0, min (min k (fit x)) ys.1)) (λ ys. (found ++ tree x ∷ ys.0, min k (min (fit x) ys.1))) (series (fitting n sep closes final tree fit) one vs)
      (λ ys. joined found k x ys)
      ∙ series_goes (fitting n sep closes final tree fit) one eats_one (λ ys. (found ++ ys.0, min k ys.1)) rest g x us vs d total l e h p q so

  pub fit_ends : (rest : List Symbol) (g : Fault) (x : X) (us vs after : List Symbol) (d : Fault) (total : Reply (Fit (List Y))) → k ≤ n → final x ≡ true → past closes rest ≡ Err g → one rest ≡ Ok (x, us) → past closes us ≡ Err d → past sep us ≡ Ok vs
      → past closes vs ≡ Ok after → fit_so_far rest ≡ total → total ≡ Ok (added x, after)
  fit_ends rest g x us vs after d total le l e h p q c so = series_ends (fitting n sep closes final tree fit) one eats_one (λ ys. (found ++ ys.0, min k ys.1)) rest g x us vs after d total l e h p q c so ∙ at_end x after le

  pub fit_refuses : (rest : List Symbol) (g : Fault) (x : X) (us vs : List Symbol) (d f : Fault) (total : Reply (Fit (List Y))) → final x ≡ true → past closes rest ≡ Err g → one rest ≡ Ok (x, us) → past closes us ≡ Err d → past sep us ≡ Ok vs
      → past closes vs ≡ Err f → fit_so_far rest ≡ total → total ≡ Err f
  fit_refuses rest g x us vs d f total l e h p q c so = series_refuses (fitting n sep closes final tree fit) one eats_one (λ ys. (found ++ ys.0, min k ys.1)) rest g x us vs d f total l e h p q c so

-- ---- chains

module _ {X Y Z : Type 0} (sep : Symbol → Bool) (single : X → Y) (cons : X → Y → Y) (one : List Symbol → Reply X) (eats_one : Eats one) (f : Y → Z) where
  chain_opens : (rest : List Symbol) → through f (chain sep single cons one rest) ≡ through f (chain_by sep single cons one (chain sep single cons one) rest)
  chain_opens rest = ap (through f) (chain_is sep single cons one eats_one rest)

  chain_fails : (rest : List Symbol) (e : Fault) (total : Reply Z) → one rest ≡ Err e → through f (chain sep single cons one rest) ≡ total → total ≡ Err e
  chain_fails rest e total h so =
      let here : through f (chain_by sep single cons one (chain sep single cons one) rest) ≡ Err e = rw h refl in
      sym so ∙ chain_opens rest ∙ here

  pub chain_stops : (rest : List Symbol) (s : Stop) (total : Reply Z) → Fails s (one rest) → through f (chain sep single cons one rest) ≡ total → Fails s total
  chain_stops rest stop.OutOfMemory total h so = tt
  chain_stops rest (stop.At e) total h so = chain_fails rest e total h so

  pub chain_done : (rest : List Symbol) (x : X) (us : List Symbol) (g : Fault) (total : Reply Z) → one rest ≡ Ok (x, us) → past sep us ≡ Err g → through f (chain sep single cons one rest) ≡ total → total ≡ Ok (f (single x), us)
  chain_done rest x us g total h p so =
      let here : through f (chain_by sep single cons one (chain sep single cons one) rest) ≡ Ok (f (single x), us) = rw (h, p) refl in
      sym so ∙ chain_opens rest ∙ here

  pub chain_goes : (rest : List Symbol) (x : X) (us vs : List Symbol) (total : Reply Z) → one rest ≡ Ok (x, us) → past sep us ≡ Ok vs → through f (chain sep single cons one rest) ≡ total → through (λ ys. f (cons x ys)) (chain sep single cons one vs) ≡ total
  chain_goes rest x us vs total h p so =
      let here : through f (chain_by sep single cons one (chain sep single cons one) rest) ≡ through (λ ys. f (cons x ys)) (chain sep single cons one vs) = rw (h, p) (through_twice (cons x) f (chain sep single cons one vs)) in
      sym here ∙ sym (chain_opens rest) ∙ so
