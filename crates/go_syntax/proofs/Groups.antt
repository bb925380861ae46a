-- Groups of specifications, and a declaration after its keyword.
use Rattle.std.proofs.Common.{◌≡◌, ℕ, ◌<◌, ◌≤◌, List, [], ◌∷◌, ◌++◌, length, Ok, ap, subst, arith, length-append}
use Rattle.go_expr_syntax.specs.declared.symbols.Symbol.{Symbol}
use Rattle.go_expr_syntax.specs.declared.symbols.Symbol.TheVariants as t
use Rattle.go_expr_syntax.specs.declared.faults.Fault.{Fault}
use Rattle.go_expr_syntax.specs.Reading.{Reply, ◌>>=◌, past, is_semicolon, is_open_paren, is_close_paren, row, rows}
use Rattle.go_syntax.specs.Decls as d
use Rattle.go_syntax.specs.Decls.{IsBlock, IsGroup}
use Rattle.go_syntax.specs.Files.{single_at, group_at, decl_more, decl_end, decl_at}
use Rattle.go_expr_syntax.proofs.Viable.{going, ReadOk, ReadsBy, ReadsAt, Past, After, as_reads, choose_reads, past_reads, bind_reads, value_reads}
use Rattle.go_expr_syntax.proofs.Marks.{semicolon, open_paren, close_paren}
use Rattle.go_expr_syntax.proofs.Rows.{IsSeries, row_reads, bind_same, past_shorter}

-- of any number of nodes
abbrev pub Any : {X : Type 0} → (ℕ → List Symbol → X → List Symbol → Type 0) → List Symbol → X → List Symbol → Type 0
Any F ts x rest = (m : ℕ) × F m ts x rest

block_row : {X : Type 0} (F : ℕ → List Symbol → X → List Symbol → Type 0) → IsSeries (rows is_close_paren) (Any F) (Any (IsBlock F))
block_row F = record {
  between = semicolon;
  ending = close_paren;
  none = λ c rest. (0, d.none_in_block c rest);
  last = λ c ts f rest w. (w.0, d.last_in_block w.0 c ts f rest w.1);
  more = λ s ts us f fs rest e w v. (_, d.more_in_block w.0 v.0 s ts us f fs rest w.1 v.1);
  final = λ s c ts f rest e w. absurd cc;
}

pub group_reads : {X : Type 0} (F : ℕ → List Symbol → X → List Symbol → Type 0) (one : List Symbol → Reply X) → ((x : X) (us : List Symbol) → Any F [] x us → ⊥) → ((us : List Symbol) → ReadsAt (Any F) one us (one us))
    → (ts : List Symbol) → ReadsAt (Any (IsGroup F)) (group_at one) ts (group_at one ts)
group_reads F one never item ts =
    choose_reads is_open_paren (Any (IsGroup F)) open_paren (row is_close_paren one) (single_at one) ts
    (λ us. as_reads (Any (IsBlock F)) (Past open_paren (Any (IsGroup F))) (row is_close_paren one) us (row is_close_paren one us) (λ vs xs rest w o. (w.0, d.grouped w.0 o vs xs rest w.1))
    (row_reads is_close_paren (Any F) (Any (IsBlock F)) (block_row F) one never item us))
    (λ e. value_reads (Any F) (Any (IsGroup F)) one (λ x. x ∷ []) ts (λ us x rest w. (w.0, d.single w.0 us x rest w.1)) (one ts) (item ts))

-- ---- a declaration after its keyword

pub no_longer : {X : Type 0} (F : List Symbol → X → List Symbol → Type 0) (p : List Symbol → Reply X) (ts : List Symbol) (x : X) (rest : List Symbol) → ReadOk F p ts x rest → length rest ≤ length ts
no_longer F p ts x rest h = rw (h.split, length-append {A = Symbol}) (omega arith)

pub decl_local_at : {X : Type 0} (G : List Symbol → List X → List Symbol → Type 0) (W : Fault → List Symbol → List X → List Symbol → Type 0) (group : List Symbol → Reply (List X)) → ((us : List Symbol) → ReadsBy G W group us (group us)) → (ts : List Symbol) (z : List X × List Symbol)
    → group ts ≡ Ok z → length z.1 ≤ length ts
decl_local_at G W group item ts z e = no_longer G group ts z.0 z.1 (subst (ReadsBy G W group ts) e (item ts))

pub decl_same_by : {X : Type 0} (G : List Symbol → List X → List Symbol → Type 0) (W : Fault → List Symbol → List X → List Symbol → Type 0) (group : List Symbol → Reply (List X)) → ((us : List Symbol) → ReadsBy G W group us (group us))
    → (f g : List Symbol → Reply (List X)) (ts : List Symbol) → ((vs : List Symbol) → length vs < length ts → f vs ≡ g vs) → decl_at group f ts ≡ decl_at group g ts
decl_same_by G W group item f g ts h =
    bind_same (group ts) _ _ (λ z e. bind_same (past is_semicolon z.1) _ _ (λ vs p.
    let a : length z.1 ≤ length ts = decl_local_at G W group item ts z e in
    let b : length vs < length z.1 = past_shorter is_semicolon z.1 vs p in
    ap (λ (m : Reply _). m >>= λ ys. Ok (z.0 ++ ys.0, ys.1)) (h vs (omega arith))))

pub decl_same : {X : Type 0} (G : List Symbol → List X → List Symbol → Type 0) (group : List Symbol → Reply (List X)) → ((us : List Symbol) → ReadsAt G group us (group us))
    → (f g : List Symbol → Reply (List X)) (ts : List Symbol) → ((vs : List Symbol) → length vs < length ts → f vs ≡ g vs) → decl_at group f ts ≡ decl_at group g ts
decl_same G group item f g ts h = decl_same_by G (going G) group item f g ts h

pub decl_reads : {X : Type 0} (G : List Symbol → List X → List Symbol → Type 0) (group : List Symbol → Reply (List X)) → ((us : List Symbol) → ReadsAt G group us (group us))
    → (Q H : List Symbol → List X → List Symbol → Type 0) (more : List Symbol → Reply (List X)) (ts : List Symbol)
    → ((vs : List Symbol) (xs : List X) (s : ℕ) (us : List Symbol) (ys : List X) (rest : List Symbol) → G vs xs (t.Semicolon s ∷ us) → Q us ys rest → H vs (xs ++ ys) rest) → ((rest : List Symbol) → Q rest [] rest)
    → ((vs : List Symbol) → length vs < length ts → ReadsAt Q more vs (more vs)) → ReadsAt H (decl_at group more) ts (decl_at group more ts)
decl_reads G group item Q H more ts join none h =
    bind_reads G H group (decl_end more) ts
    (λ xs. record { tokens = t.Semicolon 0 ∷ []; made = xs ++ []; stands = λ tail vs w. join vs xs 0 tail [] tail w (none tail) })
    (λ xs us o. past_reads is_semicolon (After G H xs) semicolon (decl_more more xs) us
    (record { tokens = []; made = xs ++ []; stands = λ tail s vs w. join vs xs s tail [] tail w (none tail) })
    (λ k ws e.
    let a : length us ≤ length ts = no_longer G group ts xs us o in
    let b : length ws < length us = rw e (omega arith) in
    value_reads Q (Past semicolon (After G H xs)) more (λ ys. xs ++ ys) ws (λ ws' ys rest w s vs v. join vs xs s ws' ys rest v w) (more ws) (h ws (omega arith))))
    (group ts) (item ts)
