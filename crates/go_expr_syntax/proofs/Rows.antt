-- Series of items, and chains of them: they do what each item does.
use Rattle.std.proofs.Common.{◌≡◌, ℕ, ◌<◌, Bool, true, false, if◌then◌else◌, List, [], ◌∷◌, length, Result, Ok, Err, refl, sym, ap, subst, arith}
use Rattle.go_expr_syntax.specs.declared.symbols.Symbol.{Symbol}
use Rattle.go_expr_syntax.specs.declared.faults.Fault.{Fault}
use Rattle.go_expr_syntax.specs.Reading.{Reply, ◌>>=◌, unexpected, past, choose, ListForm, series_more, series_close, series_next, series_end, series_item, series_by, series, rows, row, chain_more, chain_end, chain_by, chain}
use Rattle.go_expr_syntax.proofs.Viable.{ReadsBy, ReadsOn, ReadsAt, bind_on, ended_on, Sample, Kind, Past, After, eats, done_reads, choose_reads, choose_reads_on, past_reads, bind_reads, value_reads}
use Rattle.go_expr_syntax.proofs.Steps.{Local, steps_is, steps_read}

pub bind_same : {A B : Type 0} (r : Result A Fault) (f g : A → Result B Fault) → ((a : A) → r ≡ Ok a → f a ≡ g a) → (r >>= f) ≡ (r >>= g)
bind_same (Ok a) f g h = h a refl
bind_same (Err e) f g h = refl

past_if : (b : Bool) (k : Symbol) (ts rest : List Symbol) → (if b then Ok ts else unexpected (k ∷ ts)) ≡ Ok rest → length rest < length (k ∷ ts)
past_if true k ts rest e = let same : ts ≡ rest = cc in rw (sym same) (omega arith)
past_if false k ts rest e = absurd cc

-- a token that is taken is gone
pub past_shorter : (is : Symbol → Bool) (ts rest : List Symbol) → past is ts ≡ Ok rest → length rest < length ts
past_shorter is [] rest e = absurd cc
past_shorter is (k ∷ ts) rest e = past_if (is k) k ts rest e

if_same : {X : Type 0} (b : Bool) (k : Symbol) (f g : List Symbol → Reply X) (x y : Reply X) (ts : List Symbol) → f ts ≡ g ts → x ≡ y → choose (if b then Ok ts else unexpected (k ∷ ts)) f x ≡ choose (if b then Ok ts else unexpected (k ∷ ts)) g y
if_same true k f g x y ts h e = h
if_same false k f g x y ts h e = e

pub choose_same : {X : Type 0} (is : Symbol → Bool) (f g : List Symbol → Reply X) (a b : Reply X) (ts : List Symbol) → ((us : List Symbol) → length us < length ts → f us ≡ g us) → a ≡ b → choose (past is ts) f a ≡ choose (past is ts) g b
choose_same is f g a b [] h e = e
choose_same is f g a b (k ∷ ts) h e = if_same (is k) k f g a b ts (h ts (omega arith)) e

-- each item takes a token
abbrev pub Eats : {X : Type 0} → (List Symbol → Reply X) → Type 0
Eats {X} one = (ts : List Symbol) (z : X × List Symbol) → one ts ≡ Ok z → length z.1 < length ts

pub eats_of : {X : Type 0} (F : List Symbol → X → List Symbol → Type 0) (one : List Symbol → Reply X) → ((x : X) (us : List Symbol) → F [] x us → ⊥) → ((ts : List Symbol) → ReadsAt F one ts (one ts)) → Eats one
eats_of F one never h ts z e = eats F one ts z.0 z.1 (λ us w. never z.0 us w) (subst (ReadsAt F one ts) e (h ts))

pub eats_by : {X : Type 0} (F : List Symbol → X → List Symbol → Type 0) (W : Fault → List Symbol → X → List Symbol → Type 0) (one : List Symbol → Reply X) → ((x : X) (us : List Symbol) → F [] x us → ⊥) → ((ts : List Symbol) → ReadsBy F W one ts (one ts)) → Eats one
eats_by F W one never h ts z e = eats F one ts z.0 z.1 (λ us w. never z.0 us w) (subst (ReadsBy F W one ts) e (h ts))

pub eats_on : {X : Type 0} (F W : List Symbol → X → List Symbol → Type 0) (one : List Symbol → Reply X) → ((x : X) (us : List Symbol) → F [] x us → ⊥) → ((ts : List Symbol) → ReadsOn F W one ts (one ts)) → Eats one
eats_on F W one never h ts z e = eats F one ts z.0 z.1 (λ us w. never z.0 us w) (subst (ReadsOn F W one ts) e (h ts))

-- ---- series

next_same : {X Y : Type 0} (S : ListForm X Y) (f g : List Symbol → Reply Y) (x : X) (vs : List Symbol) (b : Bool) → f vs ≡ g vs
    → (if b then series_close S x vs else series_more S f x vs) ≡ (if b then series_close S x vs else series_more S g x vs)
next_same S f g x vs true h = refl
next_same S f g x vs false h = ap (λ (m : Reply _). m >>= λ ys. Ok (S.cons x ys.0, ys.1)) h

pub series_local : {X Y : Type 0} (S : ListForm X Y) (one : List Symbol → Reply X) → Eats one → Local (series_by S one)
series_local S one eats_one f g ts h =
    ap (choose (past S.closes ts) (λ rest. Ok (S.nil, rest)))
    (bind_same (one ts) _ _ (λ z e. ap (choose (past S.closes z.1) (λ rest. Ok (S.cons z.0 S.nil, rest)))
    (bind_same (past S.sep z.1) _ _ (λ vs p.
    let less : length z.1 < length ts = eats_one ts z e in
    let fewer : length vs < length z.1 = past_shorter S.sep z.1 vs p in
    next_same S f g z.0 vs (S.final z.0) (h vs (omega arith))))))

pub series_is : {X Y : Type 0} (S : ListForm X Y) (one : List Symbol → Reply X) → Eats one → (ts : List Symbol) → series S one ts ≡ series_by S one (series S one) ts
series_is S one eats_one ts = steps_is (series_by S one) (series_local S one eats_one) ts

pub row_is : {X : Type 0} (closes : Symbol → Bool) (one : List Symbol → Reply X) → Eats one → (ts : List Symbol) → row closes one ts ≡ series_by (rows closes) one (row closes one) ts
row_is closes one eats_one ts = series_is (rows closes) one eats_one ts

-- what a series of F is
pub record IsSeries {X Y : Type 0} (S : ListForm X Y) (F : List Symbol → X → List Symbol → Type 0) (Q : List Symbol → Y → List Symbol → Type 0) : Type 0 where
  pub between : Kind S.sep
  pub ending : Kind S.closes
  pub none : (c : ℕ) (rest : List Symbol) → Q (ending.make c ∷ rest) S.nil rest
  pub last : (c : ℕ) (ts : List Symbol) (x : X) (rest : List Symbol) → F ts x (ending.make c ∷ rest) → Q ts (S.cons x S.nil) rest
  pub more : (s : ℕ) (ts us : List Symbol) (x : X) (ys : Y) (rest : List Symbol) → S.final x ≡ false → F ts x (between.make s ∷ us) → Q us ys rest → Q ts (S.cons x ys) rest
  pub final : (s c : ℕ) (ts : List Symbol) (x : X) (rest : List Symbol) → S.final x ≡ true → F ts x (between.make s ∷ ending.make c ∷ rest) → Q ts (S.cons x S.nil) rest

module _ {X Y : Type 0} (S : ListForm X Y) (F : List Symbol → X → List Symbol → Type 0) (Q : List Symbol → Y → List Symbol → Type 0) (R : IsSeries S F Q) where
  abbrev next_as : Bool → (List Symbol → Reply Y) → X → List Symbol → Reply Y
  next_as b more x vs = if b then series_close S x vs else series_more S more x vs

  -- what may stand after a separator
  after_sep : (x : X) (b : Bool) → S.final x ≡ b → Sample (Past R.between (After F Q x))
  after_sep x true e = record { tokens = R.ending.make 0 ∷ []; made = S.cons x S.nil; stands = λ tail s ts w. R.final s 0 ts x tail e w }
  after_sep x false e = record { tokens = R.ending.make 0 ∷ []; made = S.cons x S.nil; stands = λ tail s ts w. R.more s ts (R.ending.make 0 ∷ tail) x S.nil tail e w (R.none 0 tail) }

  next_reads : (more : List Symbol → Reply Y) (x : X) (vs : List Symbol) (b : Bool) → S.final x ≡ b → ReadsAt Q more vs (more vs) → ReadsAt (Past R.between (After F Q x)) (next_as b more x) vs (next_as b more x vs)
  next_reads more x vs true e h =
      past_reads S.closes (Past R.between (After F Q x)) R.ending (λ rest. Ok (S.cons x S.nil, rest)) vs
      (record { tokens = []; made = S.cons x S.nil; stands = λ tail c s ts w. R.final s c ts x tail e w })
      (λ k ws same. done_reads (Past R.ending (Past R.between (After F Q x))) (λ rest. Ok (S.cons x S.nil, rest)) ws (S.cons x S.nil) (λ tail c s ts w. R.final s c ts x tail e w) (λ r d. refl))
  next_reads more x vs false e h = value_reads Q (Past R.between (After F Q x)) more (λ ys. S.cons x ys) vs (λ ws ys rest w s ts f. R.more s ts ws x ys rest e f w) (more vs) h

  pub end_reads : (more : List Symbol → Reply Y) (x : X) (us : List Symbol) → ((vs : List Symbol) → length vs < length us → ReadsAt Q more vs (more vs)) → ReadsAt (After F Q x) (series_end S more x) us (series_end S more x us)
  end_reads more x us h =
      choose_reads S.closes (After F Q x) R.ending (λ rest. Ok (S.cons x S.nil, rest)) (λ vs. past S.sep vs >>= λ ws. series_next S more x ws) us
      (λ vs. done_reads (Past R.ending (After F Q x)) (λ rest. Ok (S.cons x S.nil, rest)) vs (S.cons x S.nil) (λ tail c ts w. R.last c ts x tail w) (λ r e. refl))
      (λ e. past_reads S.sep (After F Q x) R.between (series_next S more x) us (after_sep x (S.final x) refl)
      (λ k vs same. next_reads more x vs (S.final x) refl (h vs (rw same (omega arith)))))

  -- an item with which the series ends, and the token that closes it
  abbrev pub Final : List Symbol → X → List Symbol → Type 0
  Final us x rest = Q us (S.cons x S.nil) rest

  by_on : (one : List Symbol → Reply X) (more : List Symbol → Reply Y) (ts : List Symbol) → ((x : X) (us : List Symbol) → F [] x us → ⊥) → ((us : List Symbol) → ReadsOn F Final one us (one us))
      → ((vs : List Symbol) → length vs < length ts → ReadsAt Q more vs (more vs)) → ReadsAt Q (series_by S one more) ts (series_by S one more ts)
  by_on one more ts never item h =
      choose_reads S.closes Q R.ending (λ rest. Ok (S.nil, rest)) (series_item S one more) ts
      (λ vs. done_reads (Past R.ending Q) (λ rest. Ok (S.nil, rest)) vs S.nil (λ tail c. R.none c tail) (λ r e. refl))
      (λ e. bind_on F Final Q one (series_end S more) ts
      (λ x. record { tokens = R.ending.make 0 ∷ []; made = S.cons x S.nil; stands = λ tail us w. R.last 0 us x tail w })
      (λ x. S.cons x S.nil) (λ us x rest w. w)
      (λ x us o. end_reads more x us (λ vs less. let fewer : length us < length ts = eats F one ts x us (λ vs w. never x vs w) o in h vs (omega arith)))
      (one ts) (item ts))

  pub series_on : (one : List Symbol → Reply X) → ((x : X) (us : List Symbol) → F [] x us → ⊥) → ((us : List Symbol) → ReadsOn F Final one us (one us)) → (ts : List Symbol) → ReadsAt Q (series S one) ts (series S one ts)
  series_on one never item ts = steps_read Q (series_by S one) (series_local S one (eats_on F Final one never item)) (λ more us h. by_on one more us never item h) ts

  pub series_reads : (one : List Symbol → Reply X) → ((x : X) (us : List Symbol) → F [] x us → ⊥) → ((us : List Symbol) → ReadsAt F one us (one us)) → (ts : List Symbol) → ReadsAt Q (series S one) ts (series S one ts)
  series_reads one never item ts = series_on one never (λ us. ended_on F Final (R.ending.make 0 ∷ []) one us (one us) (λ vs x r w. R.last 0 vs x r w) (item us)) ts

pub row_reads : {X : Type 0} (closes : Symbol → Bool) (F : List Symbol → X → List Symbol → Type 0) (Q : List Symbol → List X → List Symbol → Type 0) → IsSeries (rows closes) F Q → (one : List Symbol → Reply X)
    → ((x : X) (us : List Symbol) → F [] x us → ⊥) → ((us : List Symbol) → ReadsAt F one us (one us)) → (ts : List Symbol) → ReadsAt Q (row closes one) ts (row closes one ts)
row_reads closes F Q R one never item ts = series_reads (rows closes) F Q R one never item ts

-- ---- chains

chain_end_same : {X Y : Type 0} (sep : Symbol → Bool) (single : X → Y) (cons : X → Y → Y) (f g : List Symbol → Reply Y) (x : X) (us : List Symbol) → ((vs : List Symbol) → length vs < length us → f vs ≡ g vs)
    → chain_end sep single cons f x us ≡ chain_end sep single cons g x us
chain_end_same sep single cons f g x us h =
    choose_same sep (chain_more cons f x) (chain_more cons g x) (Ok (single x, us)) (Ok (single x, us)) us (λ vs less. ap (λ (m : Reply _). m >>= λ ys. Ok (cons x ys.0, ys.1)) (h vs less)) refl

pub chain_local : {X Y : Type 0} (sep : Symbol → Bool) (single : X → Y) (cons : X → Y → Y) (one : List Symbol → Reply X) → Eats one → Local (chain_by sep single cons one)
chain_local sep single cons one eats_one f g ts h =
    bind_same (one ts) _ _ (λ z e. let less : length z.1 < length ts = eats_one ts z e in chain_end_same sep single cons f g z.0 z.1 (λ vs fewer. h vs (omega arith)))

pub chain_is : {X Y : Type 0} (sep : Symbol → Bool) (single : X → Y) (cons : X → Y → Y) (one : List Symbol → Reply X) → Eats one → (ts : List Symbol) → chain sep single cons one ts ≡ chain_by sep single cons one (chain sep single cons one) ts
chain_is sep single cons one eats_one ts = steps_is (chain_by sep single cons one) (chain_local sep single cons one eats_one) ts

-- what a chain of F is
pub record IsChain {X Y : Type 0} (sep : Symbol → Bool) (single : X → Y) (cons : X → Y → Y) (F : List Symbol → X → List Symbol → Type 0) (Q : List Symbol → Y → List Symbol → Type 0) : Type 0 where
  pub between : Kind sep
  pub one : (ts : List Symbol) (x : X) (rest : List Symbol) → F ts x rest → Q ts (single x) rest
  pub more : (s : ℕ) (ts us : List Symbol) (x : X) (ys : Y) (rest : List Symbol) → F ts x (between.make s ∷ us) → Q us ys rest → Q ts (cons x ys) rest

pub chain_reads : {X Y : Type 0} (sep : Symbol → Bool) (single : X → Y) (cons : X → Y → Y) (F : List Symbol → X → List Symbol → Type 0) (Q : List Symbol → Y → List Symbol → Type 0) → IsChain sep single cons F Q → (one : List Symbol → Reply X)
    → ((x : X) (us : List Symbol) → F [] x us → ⊥) → ((us : List Symbol) → ReadsAt F one us (one us)) → (ts : List Symbol) → ReadsAt Q (chain sep single cons one) ts (chain sep single cons one ts)
chain_reads sep single cons F Q R one never item ts =
    steps_read Q (chain_by sep single cons one) (chain_local sep single cons one (eats_of F one never item))
    (λ later us h. bind_reads F Q one (chain_end sep single cons later) us
    (λ x. record { tokens = []; made = single x; stands = λ tail vs w. R.one vs x tail w })
    (λ x vs o.
    let fewer : length vs < length us = eats F one us x vs (λ ws w. never x ws w) o in
    choose_reads_on sep (After F Q x) R.between (chain_more cons later x) (λ ws. Ok (single x, ws)) vs
    (λ ws less. value_reads Q (Past R.between (After F Q x)) later (λ ys. cons x ys) ws (λ xs ys rest w s zs f. R.more s zs xs x ys rest f w) (later ws) (h ws (omega arith)))
    (λ e. done_reads (After F Q x) (λ ws. Ok (single x, ws)) vs (single x) (λ tail ws w. R.one ws x tail w) (λ r e'. refl)))
    (one us) (item us)) ts
