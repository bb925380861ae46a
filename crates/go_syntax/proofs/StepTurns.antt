-- The turns of the loops that read declarations.
use Rattle.std.proofs.Common.{◌≡◌, ℕ, ◌<◌, ◌≤◌, Bool, true, false, List, [], ◌++◌, length, Option, Some, None, Result, Ok, Err, refl, sym, ap, ◌∙◌, append_assoc, arith}
use Rattle.std.proofs.lemmas.List.{append-nil}
use Rattle.go_expr_syntax.specs.declared.symbols.Symbol.{Symbol}
use Rattle.go_expr_syntax.specs.declared.faults.Fault.{Fault}
use Rattle.go_syntax.specs.declared.tree.Import.{Import}
use Rattle.go_syntax.specs.declared.tree.Top.{Top}
use Rattle.go_expr_syntax.specs.declared.faults.Stop.{Stop}
use Rattle.go_expr_syntax.specs.declared.faults.Stop.TheVariants as stop
use Rattle.go_expr_syntax.specs.Reading.{Fails, Reply, ◌>>=◌, past, choose, steps, is_semicolon, is_import, is_var, is_type, is_const, is_func}
use Rattle.go_syntax.specs.Decls.{IsVarSpec, IsTypeSpec, IsGroup}
use Rattle.go_syntax.specs.Files.{import_at, var_spec_at, type_spec_at, group_at, const_group_at, func_group_at, decl_more, decl_end, decl_at, import_step, top_step, some_semicolon, some_decl, no_decl, import_decl, top_decl, step_end}
use Rattle.go_expr_syntax.proofs.Viable.{going, ReadsBy}
use Rattle.go_expr_syntax.proofs.Rows.{past_shorter}
use Rattle.go_expr_syntax.proofs.Steps.{Local, steps_is}
use Rattle.go_syntax.proofs.Groups.{Any, decl_local_at}
use Rattle.go_syntax.proofs.ImportReads.{Wide, Group, WideGroup, group_reads, import_local}
use Rattle.go_syntax.proofs.FileReads.{var_groups, type_groups, ConstsAt, const_groups, FuncsAt, func_groups, top_local}
use Rattle.go_expr_syntax.proofs.Turns.{with_front}

-- a declaration, and then more of them
abbrev pub then_more : {X : Type 0} → (List Symbol → Reply (List X)) → Reply (Option (List X)) → Reply (List X)
then_more more r = r >>= λ o. step_end more o.0 o.1

abbrev no_more : {X : Type 0} → Option (List X) → List Symbol → Reply (Option (List X))
no_more o us = Ok (o, us)

semicolon_is : {X : Type 0} (more : List Symbol → Reply (List X)) (xs : List X) (r : Result (List Symbol) Fault) → then_more more (r >>= λ us. no_more (Some xs) us) ≡ (r >>= λ us. decl_more more xs us)
semicolon_is more xs (Ok us) = refl
semicolon_is more xs (Err f) = refl

decl_is : {X : Type 0} (more : List Symbol → Reply (List X)) (r : Reply (List X)) → then_more more (r >>= λ xs. some_semicolon xs.0 xs.1) ≡ (r >>= λ xs. decl_end more xs.0 xs.1)
decl_is more (Ok z) = semicolon_is more z.0 (past is_semicolon z.1)
decl_is more (Err f) = refl

choose_is : {X : Type 0} (more : List Symbol → Reply (List X)) (r : Result (List Symbol) Fault) (q : List Symbol → Reply (Option (List X))) (p : List Symbol → Reply (List X)) (a : Reply (Option (List X))) (b : Reply (List X))
    → ((us : List Symbol) → then_more more (q us) ≡ p us) → then_more more a ≡ b → then_more more (choose r q a) ≡ choose r p b
choose_is more (Ok us) q p a b h e = h us
choose_is more (Err f) q p a b h e = e

import_is : (more : List Symbol → Reply (List Import)) (ts : List Symbol) → then_more more (import_decl ts) ≡ import_step more ts
import_is more ts = choose_is more (past is_import ts) (some_decl (group_at import_at)) (decl_at (group_at import_at) more) (no_decl ts) (Ok ([], ts)) (λ us. decl_is more (group_at import_at us)) refl

top_is : (n : ℕ) (more : List Symbol → Reply (List Top)) (ts : List Symbol) → then_more more (top_decl n ts) ≡ top_step n more ts
top_is n more ts =
    choose_is more (past is_var ts) (some_decl (group_at (var_spec_at n))) (decl_at (group_at (var_spec_at n)) more) _ _ (λ us. decl_is more (group_at (var_spec_at n) us))
    (choose_is more (past is_type ts) (some_decl (group_at (type_spec_at n))) (decl_at (group_at (type_spec_at n)) more) _ _ (λ us. decl_is more (group_at (type_spec_at n) us))
    (choose_is more (past is_const ts) (some_decl (const_group_at n)) (decl_at (const_group_at n) more) _ _ (λ us. decl_is more (const_group_at n us))
    (choose_is more (past is_func ts) (some_decl (func_group_at n)) (decl_at (func_group_at n) more) (no_decl ts) (Ok ([], ts)) (λ us. decl_is more (func_group_at n us)) refl)))

-- what reads one declaration is a step's first part
pub record Steps {X : Type 0} (one : List Symbol → Reply (Option (List X))) (step : (List Symbol → Reply (List X)) → List Symbol → Reply (List X)) : Type 0 where
  pub local : Local step
  pub parts : (more : List Symbol → Reply (List X)) (ts : List Symbol) → then_more more (one ts) ≡ step more ts
  pub smaller : (ts : List Symbol) (xs : List X) (us : List Symbol) → one ts ≡ Ok (Some xs, us) → length us < length ts

turn_opens : {X : Type 0} (one : List Symbol → Reply (Option (List X))) (step : (List Symbol → Reply (List X)) → List Symbol → Reply (List X)) → Steps one step → (found : List X) (rest : List Symbol)
    → with_front found (steps step rest) ≡ with_front found (then_more (steps step) (one rest))
turn_opens one step S found rest = ap (with_front found) (steps_is step S.local rest ∙ sym (S.parts (steps step) rest))

regroup : {X : Type 0} (found xs : List X) (read : Reply (List X)) → with_front found (read >>= λ ys. Ok (xs ++ ys.0, ys.1)) ≡ with_front (found ++ xs) read
regroup found xs (Ok z) = ap (λ (ys : List _). Ok (ys, z.1)) (simp append_assoc)
regroup found xs (Err f) = refl

pub step_fails : {X : Type 0} (one : List Symbol → Reply (Option (List X))) (step : (List Symbol → Reply (List X)) → List Symbol → Reply (List X)) → Steps one step → (found : List X) (rest : List Symbol) (f : Fault) (total : Reply (List X))
    → one rest ≡ Err f → with_front found (steps step rest) ≡ total → total ≡ Err f
step_fails one step S found rest f total e so =
    let here : with_front found (then_more (steps step) (one rest)) ≡ Err f = rw e refl in
    sym so ∙ turn_opens one step S found rest ∙ here

pub step_stops : {X : Type 0} (one : List Symbol → Reply (Option (List X))) (step : (List Symbol → Reply (List X)) → List Symbol → Reply (List X)) → Steps one step → (found : List X) (rest : List Symbol) (s : Stop) (total : Reply (List X))
    → Fails s (one rest) → with_front found (steps step rest) ≡ total → Fails s total
step_stops one step S found rest stop.OutOfMemory total e so = tt
step_stops one step S found rest (stop.At f) total e so = step_fails one step S found rest f total e so

pub step_done : {X : Type 0} (one : List Symbol → Reply (Option (List X))) (step : (List Symbol → Reply (List X)) → List Symbol → Reply (List X)) → Steps one step → (found : List X) (rest after : List Symbol) (total : Reply (List X))
    → one rest ≡ Ok (None, after) → with_front found (steps step rest) ≡ total → total ≡ Ok (found, after)
step_done one step S found rest after total e so =
    let here : with_front found (then_more (steps step) (one rest)) ≡ Ok (found, after) = rw e (ap (λ (ys : List _). Ok (ys, after)) (append-nil found)) in
    sym so ∙ turn_opens one step S found rest ∙ here

pub step_goes : {X : Type 0} (one : List Symbol → Reply (Option (List X))) (step : (List Symbol → Reply (List X)) → List Symbol → Reply (List X)) → Steps one step → (found : List X) (rest : List Symbol) (xs : List X) (after : List Symbol) (total : Reply (List X))
    → one rest ≡ Ok (Some xs, after) → with_front found (steps step rest) ≡ total → with_front (found ++ xs) (steps step after) ≡ total
step_goes one step S found rest xs after total e so =
    let here : with_front found (then_more (steps step) (one rest)) ≡ with_front (found ++ xs) (steps step after) = rw e (regroup found xs (steps step after)) in
    sym here ∙ sym (turn_opens one step S found rest) ∙ so

-- ---- a declaration takes tokens

abbrev got : {X : Type 0} → List X → List Symbol → Reply (Option (List X))
got xs us = Ok (Some xs, us)

abbrev left_of : {X : Type 0} → Reply (Option (List X)) → List Symbol
left_of (Ok z) = z.1
left_of (Err f) = []

semicolon_smaller : {X : Type 0} (xs ys : List X) (ts us : List Symbol) (r : Result (List Symbol) Fault) → past is_semicolon ts ≡ r → (r >>= λ vs. got xs vs) ≡ got ys us → length us < length ts
semicolon_smaller xs ys ts us (Ok vs) p e = let same : vs ≡ us = ap left_of e in rw (sym same) (past_shorter is_semicolon ts vs p)
semicolon_smaller xs ys ts us (Err f) p e = absurd cc

some_smaller : {X : Type 0} (G : List Symbol → List X → List Symbol → Type 0) (W : Fault → List Symbol → List X → List Symbol → Type 0) (group : List Symbol → Reply (List X)) → ((us : List Symbol) → ReadsBy G W group us (group us))
    → (ts : List Symbol) (ys : List X) (us : List Symbol) (r : Reply (List X)) → group ts ≡ r → (r >>= λ xs. some_semicolon xs.0 xs.1) ≡ got ys us → length us < length ts
some_smaller G W group item ts ys us (Ok z) p e =
    let a : length z.1 ≤ length ts = decl_local_at G W group item ts z p in
    let b : length us < length z.1 = semicolon_smaller z.0 ys z.1 us (past is_semicolon z.1) refl e in
    omega arith
some_smaller G W group item ts ys us (Err f) p e = absurd cc

choose_smaller : {X : Type 0} (is : Symbol → Bool) (ts : List Symbol) (q : List Symbol → Reply (Option (List X))) (other : Reply (Option (List X))) (ys : List X) (us : List Symbol) (r : Result (List Symbol) Fault) → past is ts ≡ r
    → ((vs : List Symbol) → q vs ≡ got ys us → length us < length vs) → (other ≡ got ys us → length us < length ts) → choose r q other ≡ got ys us → length us < length ts
choose_smaller is ts q other ys us (Ok vs) p h g e =
    let a : length us < length vs = h vs e in
    let b : length vs < length ts = past_shorter is ts vs p in
    omega arith
choose_smaller is ts q other ys us (Err f) p h g e = g e

abbrev some_is : {X : Type 0} → Option X → Bool
some_is (Some x) = true
some_is None = false

abbrev told : {X : Type 0} → Reply (Option (List X)) → Bool
told (Ok z) = some_is z.0
told (Err f) = false

none_is_none : {X : Type 0} (ts : List Symbol) (ys : List X) (us : List Symbol) → no_decl ts ≡ got ys us → ⊥
none_is_none ts ys us e = let h : false ≡ true = ap told e in cc

pub import_steps : Steps import_decl import_step
import_steps = record {
  local = import_local;
  parts = import_is;
  smaller = λ ts xs us e. choose_smaller is_import ts (some_decl (group_at import_at)) (no_decl ts) xs us (past is_import ts) refl
      (λ vs h. some_smaller Group (Wide Group WideGroup) (group_at import_at) group_reads vs xs us (group_at import_at vs) refl h) (λ h. absurd (none_is_none ts xs us h)) e;
}

pub top_steps : (n : ℕ) → 2 ≤ n → Steps (top_decl n) (top_step n)
top_steps n two = record {
  local = top_local n two;
  parts = top_is n;
  smaller = λ ts xs us e. choose_smaller is_var ts (some_decl (group_at (var_spec_at n))) _ xs us (past is_var ts) refl
      (λ vs h. some_smaller (Any (IsGroup IsVarSpec)) (going (Any (IsGroup IsVarSpec))) (group_at (var_spec_at n)) (var_groups n) vs xs us (group_at (var_spec_at n) vs) refl h)
      (λ o. choose_smaller is_type ts (some_decl (group_at (type_spec_at n))) _ xs us (past is_type ts) refl
      (λ vs h. some_smaller (Any (IsGroup IsTypeSpec)) (going (Any (IsGroup IsTypeSpec))) (group_at (type_spec_at n)) (type_groups n two) vs xs us (group_at (type_spec_at n) vs) refl h)
      (λ p. choose_smaller is_const ts (some_decl (const_group_at n)) _ xs us (past is_const ts) refl
      (λ vs h. some_smaller ConstsAt (going ConstsAt) (const_group_at n) (const_groups n) vs xs us (const_group_at n vs) refl h)
      (λ q. choose_smaller is_func ts (some_decl (func_group_at n)) (no_decl ts) xs us (past is_func ts) refl
      (λ vs h. some_smaller FuncsAt (going FuncsAt) (func_group_at n) (func_groups n) vs xs us (func_group_at n vs) refl h) (λ h. absurd (none_is_none ts xs us h)) q) p) o) e;
}

-- ---- the same of what a call answered

pub done_at : {X : Type 0} (one : List Symbol → Reply (Option (List X))) (step : (List Symbol → Reply (List X)) → List Symbol → Reply (List X)) → Steps one step → (found : List X) (rest : List Symbol) (o : Option (List X)) (after : List Symbol) (total : Reply (List X))
    → one rest ≡ Ok (o, after) → o ≡ None → with_front found (steps step rest) ≡ total → total ≡ Ok (found, after)
done_at one step S found rest o after total e n so = step_done one step S found rest after total (e ∙ ap (λ x. no_more x after) n) so

pub goes_at : {X : Type 0} (one : List Symbol → Reply (Option (List X))) (step : (List Symbol → Reply (List X)) → List Symbol → Reply (List X)) → Steps one step → (found : List X) (rest : List Symbol) (o : Option (List X)) (xs : List X) (after : List Symbol) (total : Reply (List X))
    → one rest ≡ Ok (o, after) → o ≡ Some xs → with_front found (steps step rest) ≡ total → with_front (found ++ xs) (steps step after) ≡ total
goes_at one step S found rest o xs after total e n so = step_goes one step S found rest xs after total (e ∙ ap (λ x. no_more x after) n) so

pub smaller_at : {X : Type 0} (one : List Symbol → Reply (Option (List X))) (step : (List Symbol → Reply (List X)) → List Symbol → Reply (List X)) → Steps one step → (rest : List Symbol) (o : Option (List X)) (xs : List X) (after : List Symbol)
    → one rest ≡ Ok (o, after) → o ≡ Some xs → length after < length rest
smaller_at one step S rest o xs after e n = S.smaller rest xs after (e ∙ ap (λ x. no_more x after) n)
