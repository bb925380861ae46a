-- The turns of the readers of types that begin with a name.
use Rattle.std.proofs.Common.{◌≡◌, ℕ, zero, suc, ◌-◌, ◌≤◌, min, Bool, true, false, List, [], ◌∷◌, map, Result, Ok, Err, refl, sym, ap, subst, ◌∙◌, arith}
use Rattle.go_expr_syntax.specs.declared.symbols.Symbol.{Symbol}
use Rattle.go_expr_syntax.specs.declared.symbols.Symbol.TheVariants as t
use Rattle.go_expr_syntax.specs.declared.symbols.Ident.{Ident}
use Rattle.go_expr_syntax.specs.declared.faults.Fault.{Fault}
use Rattle.go_expr_syntax.specs.declared.faults.Stop.{Stop}
use Rattle.go_expr_syntax.specs.declared.faults.Stop.TheVariants as stop
use Rattle.go_type_syntax.specs.declared.params.Param.{Param}
use Rattle.go_type_syntax.specs.declared.tree.ParamExpr.{ParamExpr}
use Rattle.go_type_syntax.specs.declared.tree.TypeExpr.{TypeExpr}
use Rattle.go_type_syntax.specs.declared.tree.TypeExpr.TheVariants as y
use Rattle.go_type_syntax.specs.declared.tree.ElemExpr.{ElemExpr}
use Rattle.go_type_syntax.specs.declared.tree.ElemExpr.TheVariants as elem
use Rattle.go_expr_syntax.specs.declared.faults.Fault.TheVariants.{Unexpected, Deep, DotImport, Call}
use Rattle.go_expr_syntax.specs.Reading.{Reply, ◌>>=◌, told_at, past, starts, is_comma, is_ident, is_close_bracket, series, Fit, with_fit, Fails, Gives}
use Rattle.go_type_syntax.specs.Params.{item, params_end, bare, types_by}
use Rattle.go_type_syntax.specs.Elements.{type_list, types_at, name_by, after_type, embedded_elem}
use Rattle.go_type_syntax.specs.Types.{tagged, lone_by, star_at, readers, type_at, lower_at}
use Rattle.go_expr_syntax.proofs.Rows.{Eats, eats_of}
use Rattle.go_type_syntax.proofs.Standing.{TypeAt, no_type_here}
use Rattle.go_type_syntax.proofs.TypeReads.{type_reads, type_some}
use Rattle.go_type_syntax.proofs.SmallFits.{types_small}

pub type_eats : (n : ℕ) → Eats (type_at n)
type_eats n = eats_of TypeAt (type_at n) no_type_here (type_reads n)

-- ---- type arguments

abbrev args_read : List TypeExpr → ℕ → List Symbol → Reply (Fit (List TypeExpr))
args_read xs k rest = Ok ((xs, k), rest)

more_is : (n : ℕ) (x : Fit TypeExpr) (read : Reply (Fit (List TypeExpr))) → ((z : Fit (List TypeExpr) × List Symbol) → read ≡ Ok z → z.0.1 ≤ n)
    → with_fit (x.0 ∷ [], min x.1 n) read ≡ (read >>= λ ys. Ok ((x.0 ∷ ys.0.0, min x.1 ys.0.1), ys.1))
more_is n x (Ok z) h = let e : min (min x.1 n) z.0.1 ≡ min x.1 z.0.1 = omega (arith, h z refl) in ap (λ k. args_read (x.0 ∷ z.0.0) k z.1) e
more_is n x (Err f) h = refl

-- an argument with a comma behind it
args_more : (n : ℕ) (ts : List Symbol) (x : Fit TypeExpr) (us vs : List Symbol) (g : Fault) → type_at n ts ≡ Ok (x, us) → past is_close_bracket us ≡ Err g → past is_comma us ≡ Ok vs
    → types_at n (type_at n) ts ≡ with_fit (x.0 ∷ [], min x.1 n) (series (type_list n) (type_at n) vs)
args_more n ts x us vs g e p q = rw (e, p, q) (sym (more_is n x (series (type_list n) (type_at n) vs) (types_small n vs)))

-- what a call answers, where it was called with this argument
pub args_give : {X : Type 0} (r : Result X Stop) (view : X → Fit (List TypeExpr) × List Symbol) (n : ℕ) (ts : List Symbol) (x : Fit TypeExpr) (us vs : List Symbol) (g : Fault) (xs : List TypeExpr) (k : ℕ)
    → type_at n ts ≡ Ok (x, us) → past is_close_bracket us ≡ Err g → past is_comma us ≡ Ok vs → xs ≡ x.0 ∷ [] → k ≡ min x.1 n → Gives view r (with_fit (xs, k) (series (type_list n) (type_at n) vs))
    → Gives view r (types_at n (type_at n) ts)
args_give r view n ts x us vs g xs k e p q a b h =
    subst (Gives view r) (sym (args_more n ts x us vs g e p q))
    (subst (λ (j : ℕ). Gives view r (with_fit (x.0 ∷ [], j) (series (type_list n) (type_at n) vs))) b
    (subst (λ (ys : List TypeExpr). Gives view r (with_fit (ys, k) (series (type_list n) (type_at n) vs))) a h))

-- ---- a type that begins with a name, where a node is left

name_is : (n : ℕ) (i : Ident) (ts : List Symbol) → (n ≡ 0 → ⊥) → type_at n (t.Ident i ∷ ts) ≡ told_at i.start (name_by (n - 1) (type_at (n - 1)) i ts)
name_is n i ts z = type_some n (t.Ident i ∷ ts) z

lone_is : (n : ℕ) (i : Ident) (ts : List Symbol) → (n ≡ 0 → ⊥) → lone_by n (type_at n) i ts ≡ (told_at i.start (name_by (n - 1) (type_at (n - 1)) i ts) >>= λ ty. tagged [] ty.0 i.start ty.1)
lone_is zero i ts z = absurd (z refl)
lone_is (suc n) i ts z = ap (λ (r : Reply (Fit TypeExpr)). r >>= λ ty. tagged [] ty.0 i.start ty.1) (name_is (suc n) i ts z)

pub lone_stops : (n : ℕ) (i : Ident) (ts : List Symbol) (s : Stop) → (n ≡ 0 → ⊥) → Fails s (told_at i.start (name_by (n - 1) (type_at (n - 1)) i ts)) → Fails s (lone_by n (type_at n) i ts)
lone_stops n i ts stop.OutOfMemory z e = tt
lone_stops n i ts (stop.At f) z e = let here : lone_by n (type_at n) i ts ≡ Err f = rw (lone_is n i ts z, e) refl in here

pub lone_gives : (n : ℕ) (i : Ident) (ts : List Symbol) (ty : Fit TypeExpr) (us : List Symbol) → (n ≡ 0 → ⊥) → told_at i.start (name_by (n - 1) (type_at (n - 1)) i ts) ≡ Ok (ty, us) → lone_by n (type_at n) i ts ≡ tagged [] ty i.start us
lone_gives n i ts ty us z e = rw (lone_is n i ts z, e) refl

types_is : (v : Bool) (n : ℕ) (names : List Ident) (i : Ident) (ts : List Symbol) → (n ≡ 0 → ⊥)
    → types_by v n (type_at n) names i ts ≡ (told_at i.start (name_by (n - 1) (type_at (n - 1)) i ts) >>= λ ty. with_fit (map bare names, n - 1) (params_end false v n (type_at n) (item [] false ty.0 i.start) ty.1))
types_is v zero names i ts z = absurd (z refl)
types_is v (suc n) names i ts z =
    let e : n ≡ suc n - 1 = omega arith in
    ap (λ (r : Reply (Fit TypeExpr)). r >>= λ ty. with_fit (map bare names, n) (params_end false v (suc n) (type_at (suc n)) (item [] false ty.0 i.start) ty.1)) (name_is (suc n) i ts z)
    ∙ ap (λ k. told_at i.start (name_by (suc n - 1) (type_at (suc n - 1)) i ts) >>= λ ty. with_fit (map bare names, k) (params_end false v (suc n) (type_at (suc n)) (item [] false ty.0 i.start) ty.1)) e

pub types_stop : (v : Bool) (n : ℕ) (names : List Ident) (i : Ident) (ts : List Symbol) (s : Stop) → (n ≡ 0 → ⊥) → Fails s (told_at i.start (name_by (n - 1) (type_at (n - 1)) i ts)) → Fails s (types_by v n (type_at n) names i ts)
types_stop v n names i ts stop.OutOfMemory z e = tt
types_stop v n names i ts (stop.At f) z e = let here : types_by v n (type_at n) names i ts ≡ Err f = rw (types_is v n names i ts z, e) refl in here

-- what a call answers, where it was called with these types and this parameter
pub types_give : {X : Type 0} (r : Result X Stop) (view : X → Fit (List ParamExpr) × List Symbol) (v : Bool) (n : ℕ) (names : List Ident) (i : Ident) (ts : List Symbol) (ty : Fit TypeExpr) (us : List Symbol)
    (ps : List ParamExpr) (p : Param) → (n ≡ 0 → ⊥) → told_at i.start (name_by (n - 1) (type_at (n - 1)) i ts) ≡ Ok (ty, us) → ps ≡ map bare names → p ≡ item [] false ty i.start → Gives view r (with_fit (ps, n - 1) (params_end false v n (type_at n) p us))
    → Gives view r (types_by v n (type_at n) names i ts)
types_give r view v n names i ts ty us ps p z e a b g =
    let here : types_by v n (type_at n) names i ts ≡ with_fit (map bare names, n - 1) (params_end false v n (type_at n) (item [] false ty i.start) us) = rw (types_is v n names i ts z, e) refl in
    subst (Gives view r) (sym here)
    (subst (λ (q : Param). Gives view r (with_fit (map bare names, n - 1) (params_end false v n (type_at n) q us))) b
    (subst (λ (qs : List ParamExpr). Gives view r (with_fit (qs, n - 1) (params_end false v n (type_at n) p us))) a g))

-- ---- embedded pointers

abbrev pointed : ℕ → Reply (Fit TypeExpr) → Reply (Fit TypeExpr)
pointed at read = read >>= λ ty. Ok ((y.Pointer ty.0.0 at, ty.0.1), ty.1)

pointer_is : (at : ℕ) (read : Reply (Fit TypeExpr)) → (told_at at (pointed at read) >>= λ ty. tagged [] ty.0 at ty.1) ≡ (told_at at read >>= λ ty. tagged [] (y.Pointer ty.0.0 at, ty.0.1) at ty.1)
pointer_is at (Ok z) = refl
pointer_is at (Err (Unexpected k)) = refl
pointer_is at (Err (Deep k began)) = refl
pointer_is at (Err (DotImport k)) = refl
pointer_is at (Err (Call k c)) = refl

star_is : (n at : ℕ) (ts : List Symbol) → (n ≡ 0 → ⊥) → starts is_ident ts ≡ true → star_at n (type_at n) at ts ≡ (told_at at (type_at (n - 1) ts) >>= λ ty. tagged [] (y.Pointer ty.0.0 at, ty.0.1) at ty.1)
star_is zero at ts z s = absurd (z refl)
star_is (suc n) at ts z s = rw s (ap (λ (r : Reply (Fit TypeExpr)). r >>= λ ty. tagged [] ty.0 at ty.1) (type_some (suc n) (t.Star at ∷ ts) z) ∙ pointer_is at (type_at (suc n - 1) ts))

pub star_stops : (n at : ℕ) (ts : List Symbol) (s : Stop) → (n ≡ 0 → ⊥) → starts is_ident ts ≡ true → Fails s (told_at at (type_at (n - 1) ts)) → Fails s (star_at n (type_at n) at ts)
star_stops n at ts stop.OutOfMemory z h e = tt
star_stops n at ts (stop.At f) z h e = let here : star_at n (type_at n) at ts ≡ Err f = rw (star_is n at ts z h, e) refl in here

pub star_gives : (n at : ℕ) (ts : List Symbol) (ty : Fit TypeExpr) (us : List Symbol) → (n ≡ 0 → ⊥) → starts is_ident ts ≡ true → told_at at (type_at (n - 1) ts) ≡ Ok (ty, us) → star_at n (type_at n) at ts ≡ tagged [] (y.Pointer ty.0 at, ty.1) at us
star_gives n at ts ty us z h e = rw (star_is n at ts z h, e) refl

-- ---- embedded types of interfaces

abbrev elem_of : ℕ → Ident → Reply (Fit TypeExpr) → Reply (Fit ElemExpr)
elem_of n i read = (read >>= λ ty. after_type (lower_at n) ty.0.0 ty.0.1 i.start ty.1) >>= λ ty. Ok ((elem.Embedded ty.0.0 i.start, ty.0.1), ty.1)

below_is : (n : ℕ) → lower_at (suc n) ≡ type_at n
unfolding readers
below_is n = refl

elem_is : (n : ℕ) (i : Ident) (ts : List Symbol) → (n ≡ 0 → ⊥) → embedded_elem n (lower_at n) i ts ≡ elem_of n i (name_by (n - 1) (type_at (n - 1)) i ts)
elem_is zero i ts z = absurd (z refl)
elem_is (suc n) i ts z =
    let e : n ≡ suc n - 1 = omega arith in
    ap (λ (p : List Symbol → Reply (Fit TypeExpr)). elem_of (suc n) i (name_by n p i ts)) (below_is n) ∙ ap (λ k. elem_of (suc n) i (name_by k (type_at k) i ts)) e

pub elem_stops : (n : ℕ) (i : Ident) (ts : List Symbol) (s : Stop) → (n ≡ 0 → ⊥) → Fails s (name_by (n - 1) (type_at (n - 1)) i ts) → Fails s (embedded_elem n (lower_at n) i ts)
elem_stops n i ts stop.OutOfMemory z e = tt
elem_stops n i ts (stop.At f) z e = let here : embedded_elem n (lower_at n) i ts ≡ Err f = rw (elem_is n i ts z, e) refl in here

pub union_stops : (n : ℕ) (i : Ident) (ts : List Symbol) (x : Fit TypeExpr) (us : List Symbol) (s : Stop) → (n ≡ 0 → ⊥) → name_by (n - 1) (type_at (n - 1)) i ts ≡ Ok (x, us) → Fails s (after_type (lower_at n) x.0 x.1 i.start us)
    → Fails s (embedded_elem n (lower_at n) i ts)
union_stops n i ts x us stop.OutOfMemory z d e = tt
union_stops n i ts x us (stop.At f) z d e = let here : embedded_elem n (lower_at n) i ts ≡ Err f = rw (elem_is n i ts z, d, e) refl in here

pub elem_gives : (n : ℕ) (i : Ident) (ts : List Symbol) (x : Fit TypeExpr) (us : List Symbol) (ty : TypeExpr) (fit : ℕ) (rest : List Symbol) → (n ≡ 0 → ⊥) → name_by (n - 1) (type_at (n - 1)) i ts ≡ Ok (x, us)
    → after_type (lower_at n) x.0 x.1 i.start us ≡ Ok ((ty, fit), rest) → embedded_elem n (lower_at n) i ts ≡ Ok ((elem.Embedded ty i.start, fit), rest)
elem_gives n i ts x us ty fit rest z d e = rw (elem_is n i ts z, d, e) refl
