-- What is written so is read so, unless a path is too long.
use Rattle.std.proofs.Common.{◌≡◌, ℕ, ◌<◌, ◌≤◌, ◌-◌, min, max, Bool, true, false, List, [], ◌∷◌, Ok, Err, refl, sym, ap, subst, ◌∙◌, arith}
use Rattle.go_expr_syntax.specs.declared.symbols.Symbol.{Symbol}
use Rattle.go_expr_syntax.specs.declared.symbols.Symbol.TheVariants as t
use Rattle.go_expr_syntax.specs.declared.symbols.Ident.{Ident}
use Rattle.go_expr_syntax.specs.declared.faults.Fault.TheVariants.{Unexpected, Deep, DotImport, Call}
use Rattle.go_expr_syntax.specs.declared.tree.NameExpr.{NameExpr}
use Rattle.go_expr_syntax.specs.Reading.{Reply, told_at, ◌>>=◌, past, choose, starts, is_dot, is_comma, ListForm, series_end, series_by, series_item, series, rows, row, chain_end, chain, Fit, start_of, placed}
use Rattle.go_expr_syntax.specs.Names.{plain, IsTypeName, own, of_package, IsNames, one, more, selected_by, dotted, names_more, names_at}
use Rattle.go_expr_syntax.proofs.NameReads.{after_ident}
use Rattle.go_expr_syntax.proofs.Rows.{Eats, series_is, chain_is}

-- The answer is this one, or a path is too long: the tree's has m nodes, and n are allowed.
abbrev pub Agrees : {X : Type 0} → ℕ → ℕ → X → List Symbol → Reply X → Type 0
Agrees n m x rest (Ok y) = (y.0 ≡ x) × (y.1 ≡ rest) × (m ≤ n)
Agrees n m x rest (Err (Deep k began)) = n < m
Agrees n m x rest (Err (Unexpected k)) = ⊥
Agrees n m x rest (Err (DotImport k)) = ⊥
Agrees n m x rest (Err (Call k at)) = ⊥

pub agrees_bind : {A B : Type 0} (n m : ℕ) (a : A) (us : List Symbol) (i j : ℕ) (b : B) (rest : List Symbol) (r : Reply A) (q : A → List Symbol → Reply B) → Agrees n m a us r
    → (n < m → i < j) → (m ≤ n → Agrees i j b rest (q a us)) → Agrees i j b rest (r >>= λ z. q z.0 z.1)
agrees_bind n m a us i j b rest (Ok z) q h deeper fits =
    subst (λ c. Agrees i j b rest (q c z.1)) (sym h.0) (subst (λ vs. Agrees i j b rest (q a vs)) (sym h.1) (fits h.2))
agrees_bind n m a us i j b rest (Err (Deep k began)) q h deeper fits = deeper h
agrees_bind n m a us i j b rest (Err (Unexpected k)) q h deeper fits = absurd h
agrees_bind n m a us i j b rest (Err (DotImport k)) q h deeper fits = absurd h
agrees_bind n m a us i j b rest (Err (Call k at)) q h deeper fits = absurd h

pub told_again : {X : Type 0} (n m : ℕ) (x : X) (rest : List Symbol) (at : ℕ) (r : Reply X) → Agrees n m x rest r → Agrees n m x rest (told_at at r)
told_again n m x rest at (Ok z) h = h
told_again n m x rest at (Err (Unexpected k)) h = absurd h
told_again n m x rest at (Err (Deep k began)) h = h
told_again n m x rest at (Err (DotImport k)) h = absurd h
told_again n m x rest at (Err (Call k c)) h = absurd h

pub untold : {X : Type 0} (n m : ℕ) (x : X) (rest : List Symbol) (at : ℕ) (r : Reply X) → Agrees n m x rest (told_at at r) → Agrees n m x rest r
untold n m x rest at (Ok z) h = h
untold n m x rest at (Err (Unexpected k)) h = absurd h
untold n m x rest at (Err (Deep k began)) h = h
untold n m x rest at (Err (DotImport k)) h = absurd h
untold n m x rest at (Err (Call k c)) h = absurd h

pub untold_then : {A B : Type 0} (n m : ℕ) (x : B) (rest : List Symbol) (at : ℕ) (r : Reply A) (q : A × List Symbol → Reply B) → Agrees n m x rest (told_at at r >>= q) → Agrees n m x rest (r >>= q)
untold_then n m x rest at (Ok z) q h = h
untold_then n m x rest at (Err (Unexpected k)) q h = absurd h
untold_then n m x rest at (Err (Deep k began)) q h = h
untold_then n m x rest at (Err (DotImport k)) q h = absurd h
untold_then n m x rest at (Err (Call k c)) q h = absurd h

pub agrees_as : {X : Type 0} (n m : ℕ) (x y : X) (rest : List Symbol) (r : Reply X) → x ≡ y → Agrees n m x rest r → Agrees n m y rest r
agrees_as n m x y rest r e h = subst (λ z. Agrees n m z rest r) e h

pub agrees_from : {X : Type 0} (n m : ℕ) (x : X) (rest : List Symbol) (r s : Reply X) → s ≡ r → Agrees n m x rest r → Agrees n m x rest s
agrees_from n m x rest r s e h = subst (Agrees n m x rest) (sym e) h

-- a tree of m nodes on a longest path, where n are allowed
abbrev pub sized : {X : Type 0} → ℕ → ℕ → X → Fit X
sized n m x = (x, n - m)

abbrev pub fit_at : {X : Type 0} → X → ℕ → Fit X
fit_at x k = (x, k)

pub placed_again : {X : Type 0} (n m : ℕ) (x : X) (rest ts : List Symbol) (p : List Symbol → Reply X) → Agrees n m x rest (p ts) → Agrees n m (x, start_of ts) rest (placed p ts)
placed_again n m x rest ts p h = agrees_bind n m x rest n m (x, start_of ts) rest (p ts) (λ z us. Ok ((z, start_of ts), us)) h (λ d. d) (λ f. (refl, refl, f))

-- ---- the next token isn't of a kind

pub choose_other : {X : Type 0} (is : Symbol → Bool) (ts : List Symbol) (q : List Symbol → Reply X) (other : Reply X) → starts is ts ≡ false → choose (past is ts) q other ≡ other
choose_other is [] q other e = refl
choose_other is (k ∷ ts) q other e = rw e refl

-- ---- names

pub plain_again : (i : Ident) (r : List Symbol) → starts is_dot r ≡ false → dotted i r ≡ Ok (plain i, r)
plain_again i r e = choose_other is_dot r (selected_by i) (Ok (plain i, r)) e

pub name_again : (ts : List Symbol) (x : NameExpr) (rest : List Symbol) → IsTypeName ts x rest → starts is_dot rest ≡ false → (i : Ident) × (us : List Symbol) × (ts ≡ t.Ident i ∷ us) × (dotted i us ≡ Ok (x, rest))
name_again ts x rest (own i r) e = (i, r, refl, plain_again i r e)
name_again ts x rest (of_package p d i r) e = (p, t.Dot d ∷ t.Ident i ∷ r, refl, refl)

pub names_again : (ts : List Symbol) (names : List Ident) (rest : List Symbol) → IsNames ts names rest → starts is_comma rest ≡ false → names_at ts ≡ Ok (names, rest)
names_again ts names rest (one i r) e = after_ident i r ∙ choose_other is_comma r (names_more names_at i) (Ok (i ∷ [], r)) e
names_again ts names rest (more i c us ns r w) e = ap (λ (m : Reply (List Ident)). m >>= λ z. Ok (i ∷ z.0, z.1)) (names_again us ns r w e)

-- ---- series

pub series_opens : {X Y : Type 0} (S : ListForm X Y) (item : List Symbol → Reply X) (later : List Symbol → Reply Y) (ts : List Symbol) → starts S.closes ts ≡ false → series_by S item later ts ≡ series_item S item later ts
series_opens S item later [] e = refl
series_opens S item later (k ∷ ts) e = rw e refl

module _ {X Y : Type 0} (S : ListForm X Y) where
  pub end_last : (later : List Symbol → Reply Y) (n m : ℕ) (x : X) (k : Symbol) (rest : List Symbol) → S.closes k ≡ true → m ≤ n → Agrees n m (S.cons x S.nil) rest (series_end S later x (k ∷ rest))
  end_last later n m x k rest c f = rw c (refl, refl, f)

  pub end_more : (later : List Symbol → Reply Y) (n m j : ℕ) (x : X) (k : Symbol) (us : List Symbol) (ys : Y) (rest : List Symbol) → S.closes k ≡ false → S.sep k ≡ true → S.final x ≡ false → m ≤ n → Agrees n j ys rest (later us)
      → Agrees n (max m j) (S.cons x ys) rest (series_end S later x (k ∷ us))
  end_more later n m j x k us ys rest c s l f g =
      rw (c, s, l) (agrees_bind n j ys rest n (max m j) (S.cons x ys) rest (later us) (λ zs vs. Ok (S.cons x zs, vs)) g (λ d. omega arith) (λ w. (refl, refl, omega arith)))

  pub end_final : (later : List Symbol → Reply Y) (n m : ℕ) (x : X) (k c : Symbol) (rest : List Symbol) → S.closes k ≡ false → S.sep k ≡ true → S.final x ≡ true → S.closes c ≡ true → m ≤ n
      → Agrees n m (S.cons x S.nil) rest (series_end S later x (k ∷ c ∷ rest))
  end_final later n m x k c rest a s l e f = rw (a, s, l, e) (refl, refl, f)

module _ {X Y : Type 0} (S : ListForm X Y) (item : List Symbol → Reply X) (eats_one : Eats item) where
  pub series_none : (n : ℕ) (k : Symbol) (rest : List Symbol) → S.closes k ≡ true → Agrees n 0 S.nil rest (series S item (k ∷ rest))
  series_none n k rest e = rw (series_is S item eats_one (k ∷ rest), e) (refl, refl, omega arith)

  pub series_once : (n m : ℕ) (ts : List Symbol) (x : X) (k : Symbol) (rest : List Symbol) → starts S.closes ts ≡ false → S.closes k ≡ true → Agrees n m x (k ∷ rest) (item ts) → Agrees n m (S.cons x S.nil) rest (series S item ts)
  series_once n m ts x k rest e c h =
      rw (series_is S item eats_one ts, series_opens S item (series S item) ts e)
      (agrees_bind n m x (k ∷ rest) n m (S.cons x S.nil) rest (item ts) (series_end S (series S item)) h (λ d. d) (λ f. end_last S (series S item) n m x k rest c f))

  pub series_twice : (n m j : ℕ) (ts : List Symbol) (x : X) (k : Symbol) (us : List Symbol) (ys : Y) (rest : List Symbol) → starts S.closes ts ≡ false → S.closes k ≡ false → S.sep k ≡ true → S.final x ≡ false
      → Agrees n m x (k ∷ us) (item ts) → Agrees n j ys rest (series S item us) → Agrees n (max m j) (S.cons x ys) rest (series S item ts)
  series_twice n m j ts x k us ys rest e c s l h g =
      rw (series_is S item eats_one ts, series_opens S item (series S item) ts e)
      (agrees_bind n m x (k ∷ us) n (max m j) (S.cons x ys) rest (item ts) (series_end S (series S item)) h (λ d. omega arith) (λ f. end_more S (series S item) n m j x k us ys rest c s l f g))

  pub series_final : (n m : ℕ) (ts : List Symbol) (x : X) (k c : Symbol) (rest : List Symbol) → starts S.closes ts ≡ false → S.closes k ≡ false → S.sep k ≡ true → S.final x ≡ true → S.closes c ≡ true
      → Agrees n m x (k ∷ c ∷ rest) (item ts) → Agrees n m (S.cons x S.nil) rest (series S item ts)
  series_final n m ts x k c rest e a s l d h =
      rw (series_is S item eats_one ts, series_opens S item (series S item) ts e)
      (agrees_bind n m x (k ∷ c ∷ rest) n m (S.cons x S.nil) rest (item ts) (series_end S (series S item)) h (λ o. o) (λ f. end_final S (series S item) n m x k c rest a s l d f))

module _ {X : Type 0} (closes : Symbol → Bool) (item : List Symbol → Reply X) (eats_one : Eats item) where
  pub row_none : (k : Symbol) (rest : List Symbol) (n : ℕ) → closes k ≡ true → Agrees n 0 [] rest (row closes item (k ∷ rest))
  row_none k rest n e = series_none (rows closes) item eats_one n k rest e

  pub row_last : (n m : ℕ) (ts : List Symbol) (x : X) (k : Symbol) (rest : List Symbol) → starts closes ts ≡ false → closes k ≡ true → Agrees n m x (k ∷ rest) (item ts) → Agrees n m (x ∷ []) rest (row closes item ts)
  row_last n m ts x k rest e c h = series_once (rows closes) item eats_one n m ts x k rest e c h

  pub row_more : (n m j : ℕ) (ts : List Symbol) (x : X) (s : ℕ) (us : List Symbol) (xs : List X) (rest : List Symbol) → starts closes ts ≡ false → closes (t.Semicolon s) ≡ false
      → Agrees n m x (t.Semicolon s ∷ us) (item ts) → Agrees n j xs rest (row closes item us) → Agrees n (max m j) (x ∷ xs) rest (row closes item ts)
  row_more n m j ts x s us xs rest e c h g = series_twice (rows closes) item eats_one n m j ts x (t.Semicolon s) us xs rest e c refl refl h g

-- ---- series of trees

pub less_none : {Y : Type 0} (n : ℕ) → fit_at {X = List Y} [] n ≡ sized n 0 []
less_none n = ap (fit_at []) (omega arith)

pub less_last : {Y : Type 0} (n m k : ℕ) (y : Y) → k ≡ n - m → fit_at (y ∷ []) (min k n) ≡ sized n m (y ∷ [])
less_last n m k y e = let o : min k n ≡ n - m = omega (arith, e) in ap (fit_at (y ∷ [])) o

pub less_more : {Y : Type 0} (n m j k : ℕ) (y : Y) (ys : List Y) → k ≡ n - m → fit_at (y ∷ ys) (min k (n - j)) ≡ sized n (max m j) (y ∷ ys)
less_more n m j k y ys e = let o : min k (n - j) ≡ n - max m j = omega (arith, e) in ap (fit_at (y ∷ ys)) o

-- ---- chains

module _ {X Y : Type 0} (sep : Symbol → Bool) (single : X → Y) (cons : X → Y → Y) (item : List Symbol → Reply X) (eats_one : Eats item) where
  pub chain_once : (n m : ℕ) (ts : List Symbol) (x : X) (rest : List Symbol) → starts sep rest ≡ false → Agrees n m x rest (item ts) → Agrees n m (single x) rest (chain sep single cons item ts)
  chain_once n m ts x rest e h =
      rw (chain_is sep single cons item eats_one ts)
      (agrees_bind n m x rest n m (single x) rest (item ts) (chain_end sep single cons (chain sep single cons item)) h (λ d. d)
      (λ f. agrees_from n m (single x) rest (Ok (single x, rest)) (chain_end sep single cons (chain sep single cons item) x rest) (choose_other sep rest _ _ e) (refl, refl, f)))

  pub chain_twice : (n m j : ℕ) (ts : List Symbol) (x : X) (k : Symbol) (us : List Symbol) (ys : Y) (rest : List Symbol) → sep k ≡ true → Agrees n m x (k ∷ us) (item ts) → Agrees n j ys rest (chain sep single cons item us)
      → Agrees n (max m j) (cons x ys) rest (chain sep single cons item ts)
  chain_twice n m j ts x k us ys rest s h g =
      rw (chain_is sep single cons item eats_one ts)
      (agrees_bind n m x (k ∷ us) n (max m j) (cons x ys) rest (item ts) (chain_end sep single cons (chain sep single cons item)) h (λ d. omega arith)
      (λ f. rw s (agrees_bind n j ys rest n (max m j) (cons x ys) rest (chain sep single cons item us) (λ zs vs. Ok (cons x zs, vs)) g (λ d. omega arith) (λ w. (refl, refl, omega arith)))))
