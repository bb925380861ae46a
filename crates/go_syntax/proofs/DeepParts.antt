-- Where a path is too long, it is in a type, a constraint or an expression that begins where the fault says.
use Rattle.std.proofs.Common.{◌≡◌, ℕ, zero, suc, min, ◌≤◌, ◌==◌, nat_le, Bool, true, false, if◌then◌else◌, List, [], ◌∷◌, ◌++◌, length, map, Option, Some, None, Ok, Err, refl, sym, ap, subst, ◌∙◌, append_assoc, arith}
use Rattle.std.proofs.lemmas.Bool.{eqb-true}
use Rattle.go_expr_syntax.specs.declared.symbols.Symbol.{Symbol}
use Rattle.go_expr_syntax.specs.declared.symbols.Symbol.TheVariants as t
use Rattle.go_expr_syntax.specs.declared.symbols.Ident.{Ident}
use Rattle.go_expr_syntax.specs.declared.faults.Fault.TheVariants.{Unexpected, Deep, DotImport, Call}
use Rattle.go_type_syntax.specs.declared.tree.TypeExpr.{TypeExpr}
use Rattle.go_type_syntax.specs.declared.tree.ParamExpr.{ParamExpr}
use Rattle.go_syntax.specs.declared.skipped.Bracket.{Bracket}
use Rattle.go_syntax.specs.declared.tree.FuncDecl.{FuncDecl}
use Rattle.go_syntax.specs.declared.tree.Receiver.{Receiver}
use Rattle.go_syntax.specs.declared.tree.TParam.{TParam}
use Rattle.go_syntax.specs.declared.tree.Top.{Top}
use Rattle.go_syntax.specs.declared.tree.Top.TheVariants as top
use Rattle.go_syntax.specs.declared.tree.SourceFile.{SourceFile}
use Rattle.go_expr_syntax.specs.Reading as r
use Rattle.go_expr_syntax.specs.Reading.{Reply, Fit, ◌>>=◌, unexpected, past, choose, peek, starts, start_of, placed, ListForm, series_end, series_item, series_by, series, series_close, series_more, steps_of, steps, with_fit, rows}
use Rattle.go_expr_syntax.specs.Names.{ident_at, ident_or, names_at, names_more}
use Rattle.go_expr_syntax.specs.Either.{needed, began_here, or_at, either}
use Rattle.go_expr_syntax.specs.Operands.{outer_expr}
use Rattle.go_type_syntax.specs.Grammar.{signature}
use Rattle.go_type_syntax.specs.Types.{type_at}
use Rattle.go_type_syntax.specs.Params as p
use Rattle.go_syntax.specs.Skipped.{same, opened, closed, stands_outside, skip_on, skip_close, skip_plain, skip}
use Rattle.go_syntax.specs.Constants as c
use Rattle.go_syntax.specs.Generics as q
use Rattle.go_syntax.specs.Functions as f
use Rattle.go_syntax.specs.Decls as d
use Rattle.go_syntax.specs.Files as s
use Rattle.go_syntax.specs.Files.{file_front}
use Rattle.go_syntax.specs.Outcomes.{IsDeepPart, in_type, in_constraint, in_expression}
use Rattle.go_expr_syntax.proofs.Viable.{ReadsAt}
use Rattle.go_expr_syntax.proofs.OperandReads.{ExprAt}
use Rattle.go_type_syntax.proofs.Standing.{TypeAt, UnionAt}
use Rattle.go_type_syntax.proofs.TypeReads.{type_reads}
use Rattle.go_syntax.proofs.ConstReads.{outer_reads}
use Rattle.go_syntax.proofs.DepthPlaces.{deep_type, constraint_reads, deep_constraint, deep_expr}

-- ---- what an answer is, on tokens where n nodes are allowed

abbrev Fine : {X : Type 0} → ℕ → List Symbol → Reply X → Type 0
Fine n ts (Ok z) = (front : List Symbol) × (ts ≡ front ++ z.1)
Fine n ts (Err (Unexpected k)) = Unit {0}
Fine n ts (Err (Deep left at)) = IsDeepPart n ts left at
Fine n ts (Err (DotImport k)) = Unit {0}
Fine n ts (Err (Call k at)) = Unit {0}

part_behind : (n : ℕ) (front us ts : List Symbol) (left at : ℕ) → ts ≡ front ++ us → IsDeepPart n us left at → IsDeepPart n ts left at
part_behind n front us ts left at e (in_type before part g w) = in_type (front ++ before) part (e ∙ ap (λ (vs : List Symbol). front ++ vs) g ∙ sym (append_assoc front before part)) w
part_behind n front us ts left at e (in_constraint before part g w) = in_constraint (front ++ before) part (e ∙ ap (λ (vs : List Symbol). front ++ vs) g ∙ sym (append_assoc front before part)) w
part_behind n front us ts left at e (in_expression before part g w) = in_expression (front ++ before) part (e ∙ ap (λ (vs : List Symbol). front ++ vs) g ∙ sym (append_assoc front before part)) w

behind : {X : Type 0} (n : ℕ) (front us ts : List Symbol) (reply : Reply X) → ts ≡ front ++ us → Fine n us reply → Fine n ts reply
behind n front us ts (Ok z) e h = (front ++ h.0, e ∙ ap (λ (vs : List Symbol). front ++ vs) h.1 ∙ sym (append_assoc front h.0 z.1))
behind n front us ts (Err (Unexpected k)) e h = tt
behind n front us ts (Err (Deep left at)) e h = part_behind n front us ts left at e h
behind n front us ts (Err (DotImport k)) e h = tt
behind n front us ts (Err (Call k at)) e h = tt

one_behind : {X : Type 0} (n : ℕ) (k : Symbol) (us : List Symbol) (reply : Reply X) → Fine n us reply → Fine n (k ∷ us) reply
one_behind n k us reply h = behind n (k ∷ []) us (k ∷ us) reply refl h

bind : {A B : Type 0} (n : ℕ) (ts : List Symbol) (reply : Reply A) (next : A → List Symbol → Reply B) → Fine n ts reply → ((a : A) (us : List Symbol) → Fine n us (next a us)) → Fine n ts (reply >>= λ z. next z.0 z.1)
bind n ts (Ok z) next h g = behind n h.0 z.1 ts (next z.0 z.1) h.1 (g z.0 z.1)
bind n ts (Err (Unexpected k)) next h g = tt
bind n ts (Err (Deep left at)) next h g = h
bind n ts (Err (DotImport k)) next h g = tt
bind n ts (Err (Call k at)) next h g = tt

value : {A B : Type 0} (n : ℕ) (ts : List Symbol) (reply : Reply A) (v : A → B) → Fine n ts reply → Fine n ts (reply >>= λ z. Ok (v z.0, z.1))
value n ts reply v h = bind n ts reply (λ a us. Ok (v a, us)) h (λ a us. ([], refl))

-- ---- a token, and choices

past_so : {X : Type 0} (n : ℕ) (k : Symbol) (ts : List Symbol) (next : List Symbol → Reply X) (b : Bool) → Fine n ts (next ts) → Fine n (k ∷ ts) ((if b then Ok ts else unexpected (k ∷ ts)) >>= next)
past_so n k ts next true h = one_behind n k ts (next ts) h
past_so n k ts next false h = tt

past_fine : {X : Type 0} (n : ℕ) (is : Symbol → Bool) (ts : List Symbol) (next : List Symbol → Reply X) → ((us : List Symbol) → Fine n us (next us)) → Fine n ts (past is ts >>= next)
past_fine n is [] next h = tt
past_fine n is (k ∷ ts) next h = past_so n k ts next (is k) (h ts)

choose_so : {X : Type 0} (n : ℕ) (k : Symbol) (ts : List Symbol) (found : List Symbol → Reply X) (other : Reply X) (b : Bool) → Fine n ts (found ts) → Fine n (k ∷ ts) other → Fine n (k ∷ ts) (choose (if b then Ok ts else unexpected (k ∷ ts)) found other)
choose_so n k ts found other true h g = one_behind n k ts (found ts) h
choose_so n k ts found other false h g = g

choose_fine : {X : Type 0} (n : ℕ) (is : Symbol → Bool) (ts : List Symbol) (found : List Symbol → Reply X) (other : Reply X) → ((us : List Symbol) → Fine n us (found us)) → Fine n ts other → Fine n ts (choose (past is ts) found other)
choose_fine n is [] found other h g = g
choose_fine n is (k ∷ ts) found other h g = choose_so n k ts found other (is k) (h ts) g

if_fine : {X : Type 0} (n : ℕ) (ts : List Symbol) (b : Bool) (x y : Reply X) → Fine n ts x → Fine n ts y → Fine n ts (if b then x else y)
if_fine n ts true x y h g = h
if_fine n ts false x y h g = g

peek_fine : {X : Type 0} (n : ℕ) (is : Symbol → Bool) (ts : List Symbol) (x y : Reply X) → Fine n ts x → Fine n ts y → Fine n ts (peek is ts x y)
peek_fine n is ts x y h g = if_fine n ts (starts is ts) x y h g

-- ---- names

ident_fine : (n : ℕ) (ts : List Symbol) → Fine n ts (ident_at ts)
ident_fine n [] = tt
ident_fine n (t.Ident i ∷ ts) = (t.Ident i ∷ [], refl)
ident_fine n (k ∷ ts) = tt

names_fine : (n : ℕ) (ts : List Symbol) → Fine n ts (names_at ts)
names_fine n [] = tt
names_fine n (t.Ident i ∷ []) = (t.Ident i ∷ [], refl)
names_fine n (t.Ident i ∷ t.Comma c ∷ ts) = behind n (t.Ident i ∷ t.Comma c ∷ []) ts (t.Ident i ∷ t.Comma c ∷ ts) (names_at ts >>= λ names. Ok (i ∷ names.0, names.1)) refl (value n ts (names_at ts) (λ names. i ∷ names) (names_fine n ts))
names_fine n (t.Ident i ∷ k ∷ ts) = (t.Ident i ∷ [], refl)
names_fine n (k ∷ ts) = tt

more_fine : (n : ℕ) (i : Ident) (ts : List Symbol) → Fine n ts (names_more names_at i ts)
more_fine n i ts = value n ts (names_at ts) (λ names. i ∷ names) (names_fine n ts)

ident_or_fine : {X : Type 0} (n : ℕ) (ts : List Symbol) (reply : Reply Ident) (found : Ident → List Symbol → Reply X) (other : Reply X) → Fine n ts reply → ((i : Ident) (us : List Symbol) → Fine n us (found i us)) → Fine n ts other → Fine n ts (ident_or reply found other)
ident_or_fine n ts (Ok z) found other h g o = behind n h.0 z.1 ts (found z.0 z.1) h.1 (g z.0 z.1)
ident_or_fine n ts (Err e) found other h g o = o

-- ---- what comes again and again

steps_fine : {Y : Type 0} (n : ℕ) (step : (List Symbol → Reply Y) → List Symbol → Reply Y) → ((more : List Symbol → Reply Y) → ((us : List Symbol) → Fine n us (more us)) → (us : List Symbol) → Fine n us (step more us)) → (k : ℕ) (ts : List Symbol) → Fine n ts (steps_of k step ts)
unfolding steps_of
steps_fine n step h zero ts = tt
steps_fine n step h (suc k) ts = h (steps_of k step) (steps_fine n step h k) ts

next_fine : {X Y : Type 0} (n : ℕ) (S : ListForm X Y) (more : List Symbol → Reply Y) → ((us : List Symbol) → Fine n us (more us)) → (x : X) (ts : List Symbol) (b : Bool) → Fine n ts (if b then series_close S x ts else series_more S more x ts)
next_fine n S more h x ts true = past_fine n S.closes ts (λ rest. Ok (S.cons x S.nil, rest)) (λ us. ([], refl))
next_fine n S more h x ts false = value n ts (more ts) (λ ys. S.cons x ys) (h ts)

end_fine : {X Y : Type 0} (n : ℕ) (S : ListForm X Y) (more : List Symbol → Reply Y) → ((us : List Symbol) → Fine n us (more us)) → (x : X) (ts : List Symbol) → Fine n ts (series_end S more x ts)
end_fine n S more h x ts =
    choose_fine n S.closes ts (λ rest. Ok (S.cons x S.nil, rest)) (past S.sep ts >>= λ vs. r.series_next S more x vs) (λ us. ([], refl))
    (past_fine n S.sep ts (r.series_next S more x) (λ us. next_fine n S more h x us (S.final x)))

item_fine : {X Y : Type 0} (n : ℕ) (S : ListForm X Y) (one : List Symbol → Reply X) (more : List Symbol → Reply Y) → ((us : List Symbol) → Fine n us (one us)) → ((us : List Symbol) → Fine n us (more us)) → (ts : List Symbol) → Fine n ts (series_item S one more ts)
item_fine n S one more o h ts = bind n ts (one ts) (series_end S more) (o ts) (λ x us. end_fine n S more h x us)

series_fine : {X Y : Type 0} (n : ℕ) (S : ListForm X Y) (one : List Symbol → Reply X) → ((us : List Symbol) → Fine n us (one us)) → (ts : List Symbol) → Fine n ts (series S one ts)
series_fine n S one o ts =
    steps_fine n (series_by S one) (λ more h us. choose_fine n S.closes us (λ rest. Ok (S.nil, rest)) (series_item S one more us) (λ vs. ([], refl)) (item_fine n S one more o h us)) (suc (length ts)) ts

-- ---- a choice of two readings

abbrev place_of_both : ℕ → ℕ → ℕ → ℕ → Bool → ℕ
place_of_both k began j at b = or_at began (if b then Some at else None)

both_so : (n : ℕ) (ts : List Symbol) (k began j at : ℕ) (b : Bool) → (j == k) ≡ b → IsDeepPart n ts k began → IsDeepPart n ts j at → IsDeepPart n ts k (place_of_both k began j at b)
both_so n ts k began j at true e h g = subst (λ (i : ℕ). IsDeepPart n ts i at) (eqb-true j k e) g
both_so n ts k began j at false e h g = h

deep_or : {X : Type 0} (n : ℕ) (ts : List Symbol) (k began : ℕ) (second : Reply X) → IsDeepPart n ts k began → Fine n ts second → IsDeepPart n ts k (or_at began (began_here k second))
deep_or n ts k began (Ok z) h g = h
deep_or n ts k began (Err (Unexpected j)) h g = h
deep_or n ts k began (Err (Deep j at)) h g = both_so n ts k began j at (j == k) refl h g
deep_or n ts k began (Err (DotImport j)) h g = h
deep_or n ts k began (Err (Call j at)) h g = h

either_fine : {X : Type 0} (n : ℕ) (ts : List Symbol) (first second : Reply X) → Fine n ts first → Fine n ts second → Fine n ts (either first second)
either_fine n ts (Ok z) second h g = h
either_fine n ts (Err (Unexpected k)) second h g = if_fine n ts (nat_le (needed second) k) second (Err (Unexpected k)) g tt
either_fine n ts (Err (Deep k began)) second h g = deep_or n ts k began second h g
either_fine n ts (Err (DotImport k)) second h g = if_fine n ts (nat_le (needed second) k) second (Err (DotImport k)) g tt
either_fine n ts (Err (Call k at)) second h g = if_fine n ts (nat_le (needed second) k) second (Err (Call k at)) g tt

-- ---- skipped text

skip_close_fine : (n : ℕ) (open_ones : List Bracket) (more : List Bracket → Reply (Unit {0})) (k : Symbol) (ts : List Symbol) (b : Bracket) → ((bs : List Bracket) → Fine n ts (more bs)) → Fine n (k ∷ ts) (skip_close open_ones more k ts b)
skip_close_fine n [] more k ts b h = ([], refl)
skip_close_fine n (a ∷ open_ones) more k ts b h = if_fine n (k ∷ ts) (same a b) (more open_ones) (unexpected (k ∷ ts)) (one_behind n k ts (more open_ones) (h open_ones)) tt

skip_plain_fine : (n : ℕ) (line : Bool) (open_ones : List Bracket) (more : List Bracket → Reply (Unit {0})) (k : Symbol) (ts : List Symbol) → ((bs : List Bracket) → Fine n ts (more bs)) → Fine n (k ∷ ts) (skip_plain line open_ones more k ts)
skip_plain_fine n line [] more k ts h = if_fine n (k ∷ ts) (stands_outside line k) (more []) (Ok (tt, k ∷ ts)) (one_behind n k ts (more []) (h [])) ([], refl)
skip_plain_fine n line (a ∷ open_ones) more k ts h = one_behind n k ts (more (a ∷ open_ones)) (h (a ∷ open_ones))

skip_on_fine : (n : ℕ) (line : Bool) (open_ones : List Bracket) (more : List Bracket → Reply (Unit {0})) (k : Symbol) (ts : List Symbol) (o c : Option Bracket) → ((bs : List Bracket) → Fine n ts (more bs)) → Fine n (k ∷ ts) (skip_on line open_ones more k ts o c)
skip_on_fine n line open_ones more k ts (Some b) c h = one_behind n k ts (more (b ∷ open_ones)) (h (b ∷ open_ones))
skip_on_fine n line open_ones more k ts None (Some b) h = skip_close_fine n open_ones more k ts b h
skip_on_fine n line open_ones more k ts None None h = skip_plain_fine n line open_ones more k ts h

skip_fine : (n : ℕ) (line : Bool) (open_ones : List Bracket) (ts : List Symbol) → Fine n ts (skip line open_ones ts)
skip_fine n line [] [] = ([], refl)
skip_fine n line (b ∷ open_ones) [] = tt
skip_fine n line open_ones (k ∷ ts) = skip_on_fine n line open_ones (λ bs. skip line bs ts) k ts (opened k) (closed k) (λ bs. skip_fine n line bs ts)

-- ---- types, constraints and expressions

abbrev same_reply : {X : Type 0} → Reply X → Reply X
same_reply reply = reply

type_fine : (n : ℕ) (ts : List Symbol) → Fine n ts (type_at n ts)
type_fine n ts = so (type_at n ts) (type_reads n ts) refl
  where
    so : (reply : Reply (Fit TypeExpr)) → ReadsAt TypeAt (type_at n) ts reply → type_at n ts ≡ reply → Fine n ts reply
    so (Ok z) h e = (h.front, h.split)
    so (Err (Unexpected k)) h e = tt
    so (Err (Deep left at)) h e = in_type [] ts refl (deep_type n left at ts e)
    so (Err (DotImport k)) h e = tt
    so (Err (Call k at)) h e = tt

constraint_fine : (n : ℕ) (ts : List Symbol) → Fine n ts (q.constraint_at n ts)
constraint_fine n ts = so (q.constraint_at n ts) (constraint_reads n ts) refl
  where
    so : (reply : Reply (Fit TypeExpr)) → ReadsAt UnionAt (q.constraint_at n) ts reply → q.constraint_at n ts ≡ reply → Fine n ts reply
    so (Ok z) h e = (h.front, h.split)
    so (Err (Unexpected k)) h e = tt
    so (Err (Deep left at)) h e = in_constraint [] ts refl (deep_constraint n left at ts e)
    so (Err (DotImport k)) h e = tt
    so (Err (Call k at)) h e = tt

expr_fine : (n : ℕ) (ts : List Symbol) → Fine n ts (outer_expr n ts)
expr_fine n ts = so (outer_expr n ts) (outer_reads n ts) refl
  where
    so : (reply : Reply (_)) → ReadsAt (ExprAt 5) (outer_expr n) ts reply → outer_expr n ts ≡ reply → Fine n ts reply
    so (Ok z) h e = (h.front, h.split)
    so (Err (Unexpected k)) h e = tt
    so (Err (Deep left at)) h e = in_expression [] ts refl (deep_expr n left at ts e)
    so (Err (DotImport k)) h e = tt
    so (Err (Call k at)) h e = tt

-- ---- parameters, where a node is left for their types

module _ (m : ℕ) where
  abbrev limit : ℕ
  limit = suc m

  abbrev inner : List Symbol → Reply (Fit TypeExpr)
  inner = type_at (suc m)

  param_type_fine : (names : List Ident) (variadic : Bool) (at : ℕ) (ts : List Symbol) → Fine (suc m) ts (p.param_type inner names variadic at ts)
  param_type_fine names variadic at ts = value (suc m) ts (inner ts) (λ ty. p.item names variadic ty at) (type_fine (suc m) ts)

  type_param_fine : (ts : List Symbol) → Fine (suc m) ts (p.type_param inner ts)
  type_param_fine ts = value (suc m) ts (placed inner ts) (λ ty. p.item [] false ty.0 ty.1) (value (suc m) ts (inner ts) (λ ty. (ty, start_of ts)) (type_fine (suc m) ts))

  unnamed_fine : (v : Bool) (ts : List Symbol) → Fine (suc m) ts (p.unnamed_param v inner ts)
  unnamed_fine true ts = choose_fine (suc m) r.is_ellipsis ts (p.param_type inner [] true (start_of ts)) (p.type_param inner ts) (param_type_fine [] true (start_of ts)) (type_param_fine ts)
  unnamed_fine false ts = type_param_fine ts

  lone_fine : (v : Bool) (i : Ident) (ts : List Symbol) → Fine (suc m) ts (p.lone_param v inner i ts)
  lone_fine true i ts = choose_fine (suc m) r.is_ellipsis ts (p.param_type inner (i ∷ []) true i.start) (p.param_type inner (i ∷ []) false i.start ts) (param_type_fine (i ∷ []) true i.start) (param_type_fine (i ∷ []) false i.start ts)
  lone_fine false i ts = param_type_fine (i ∷ []) false i.start ts

  first_fine : (v : Bool) (i : Ident) (ts : List Symbol) → Fine (suc m) ts (p.first_param v inner i ts)
  first_fine v i ts =
      choose_fine (suc m) r.is_comma ts (p.more_params inner i) (p.lone_param v inner i ts)
      (λ us. bind (suc m) us (names_more names_at i us) (λ names. p.param_type inner names false i.start) (more_fine (suc m) i us) (λ names vs. param_type_fine names false i.start vs))
      (lone_fine v i ts)

  param_fine : (w v : Bool) (ts : List Symbol) → Fine (suc m) ts (p.param_at w v inner ts)
  param_fine true v ts = bind (suc m) ts (ident_at ts) (p.first_param v inner) (ident_fine (suc m) ts) (λ i us. first_fine v i us)
  param_fine false v ts = unnamed_fine v ts

  row_fine : (w v : Bool) (ts : List Symbol) → Fine (suc m) ts (p.params_row w v (suc m) inner ts)
  row_fine w v ts = series_fine (suc m) (p.params (suc m)) (p.param_at w v inner) (param_fine w v) ts

  params_end_fine : (w v : Bool) (x : _) (ts : List Symbol) → Fine (suc m) ts (p.params_end w v (suc m) inner x ts)
  params_end_fine w v x ts = end_fine (suc m) (p.params (suc m)) (p.params_row w v (suc m) inner) (row_fine w v) x ts

  fit_fine : (front : Fit (List ParamExpr)) (ts : List Symbol) (reply : Reply (Fit (List ParamExpr))) → Fine (suc m) ts reply → Fine (suc m) ts (with_fit front reply)
  fit_fine front ts reply h = value (suc m) ts reply (λ ys. (front.0 ++ ys.0, min front.1 ys.1)) h

  after_bare_fine : (v : Bool) (names : List Ident) (ts : List Symbol) → Fine (suc m) ts (p.after_bare v (suc m) inner names ts)
  after_bare_fine v [] ts = fit_fine ([], suc m) ts (p.params_row false v (suc m) inner ts) (row_fine false v ts)
  after_bare_fine v (i ∷ names) ts = fit_fine (map p.bare (i ∷ names), m) ts (p.params_row false v (suc m) inner ts) (row_fine false v ts)

  types_by_fine : (v : Bool) (names : List Ident) (i : Ident) (ts : List Symbol) → Fine (suc m) (t.Ident i ∷ ts) (p.types_by v (suc m) inner names i ts)
  types_by_fine v names i ts =
      bind (suc m) (t.Ident i ∷ ts) (inner (t.Ident i ∷ ts)) (λ ty us. with_fit (map p.bare names, m) (p.params_end false v (suc m) inner (p.item [] false ty i.start) us)) (type_fine (suc m) (t.Ident i ∷ ts))
      (λ ty us. fit_fine (map p.bare names, m) us (p.params_end false v (suc m) inner (p.item [] false ty i.start) us) (params_end_fine false v (p.item [] false ty i.start) us))

  names_by_fine : (v : Bool) (names : List Ident) (i : Ident) (ts : List Symbol) → Fine (suc m) ts (p.names_by v inner names i ts)
  names_by_fine v [] i ts = lone_fine v i ts
  names_by_fine v (j ∷ names) i ts = param_type_fine (j ∷ names ++ i ∷ []) false j.start ts

  named_by_fine : (v : Bool) (names : List Ident) (i : Ident) (ts : List Symbol) → Fine (suc m) (t.Ident i ∷ ts) (p.named_by v (suc m) inner names i ts)
  named_by_fine v names i ts =
      one_behind (suc m) (t.Ident i) ts (p.named_by v (suc m) inner names i ts)
      (bind (suc m) ts (p.names_by v inner names i ts) (λ x us. with_fit ([], suc m) (p.params_end true v (suc m) inner x us)) (names_by_fine v names i ts)
      (λ x us. fit_fine ([], suc m) us (p.params_end true v (suc m) inner x us) (params_end_fine true v x us)))

  after_ident_fine : (v : Bool) (names : List Ident) (i : Ident) (ts : List Symbol) → Fine (suc m) (t.Ident i ∷ ts) (p.after_ident v (suc m) inner names i ts)
  after_ident_fine v names i ts =
      if_fine (suc m) (t.Ident i ∷ ts) (starts r.shows_type ts) (p.types_by v (suc m) inner names i ts) (p.name_or_type v (suc m) inner names i ts) (types_by_fine v names i ts)
      (if_fine (suc m) (t.Ident i ∷ ts) (starts r.is_open_bracket ts) (p.array_or_instance v (suc m) inner names i ts) (p.named_by v (suc m) inner names i ts)
      (either_fine (suc m) (t.Ident i ∷ ts) (p.named_by v (suc m) inner names i ts) (p.types_by v (suc m) inner names i ts) (named_by_fine v names i ts) (types_by_fine v names i ts)) (named_by_fine v names i ts))

  params_fine : (v : Bool) (names : List Ident) (ts : List Symbol) → Fine (suc m) ts (p.params_from v (suc m) inner names ts)
  params_fine v names [] = after_bare_fine v names []
  params_fine v names (t.Ident i ∷ []) = after_ident_fine v names i []
  params_fine v names (t.Ident i ∷ t.Comma a ∷ ts) =
      behind (suc m) (t.Ident i ∷ t.Comma a ∷ []) ts (t.Ident i ∷ t.Comma a ∷ ts) (p.params_from v (suc m) inner (names ++ i ∷ []) ts) refl (params_fine v (names ++ i ∷ []) ts)
  params_fine v names (t.Ident i ∷ k ∷ ts) = after_ident_fine v names i (k ∷ ts)
  params_fine v names (k ∷ ts) = after_bare_fine v names (k ∷ ts)

  results_fine : (at : ℕ) (ps : Fit (List ParamExpr)) (ts : List Symbol) → Fine (suc m) ts (p.results_by (suc m) inner at ps ts)
  results_fine at ps ts =
      choose_fine (suc m) r.is_open_paren ts (p.result_list (suc m) inner at ps) (peek r.begins_type ts (p.result_type inner at ps ts) (p.no_results at ps ts))
      (λ us. value (suc m) us (p.params_from false (suc m) inner [] us) (λ rs. (signature ps.0 rs.0 at, min ps.1 rs.1)) (params_fine false [] us))
      (peek_fine (suc m) r.begins_type ts (p.result_type inner at ps ts) (p.no_results at ps ts) (value (suc m) ts (p.type_param inner ts) (λ x. (signature ps.0 (x.expr ∷ []) at, min ps.1 x.fit)) (type_param_fine ts)) ([], refl))

  sig_fine : (ts : List Symbol) → Fine (suc m) ts (p.sig_at (suc m) inner ts)
  sig_fine [] = tt
  sig_fine (t.OpenParen at ∷ ts) =
      one_behind (suc m) (t.OpenParen at) ts (p.sig_by (suc m) inner at ts) (bind (suc m) ts (p.params_from true (suc m) inner [] ts) (p.results_by (suc m) inner at) (params_fine true [] ts) (λ ps us. results_fine at ps us))
  sig_fine (k ∷ ts) = tt

  -- ---- type parameters

  tparam_type_fine : (names : List Ident) (at : ℕ) (ts : List Symbol) → Fine (suc m) ts (q.tparam_type (suc m) names at ts)
  tparam_type_fine names at ts = value (suc m) ts (q.constraint_at (suc m) ts) (λ ty. q.tparam names ty.0 at) (constraint_fine (suc m) ts)

  tparam_fine : (ts : List Symbol) → Fine (suc m) ts (q.tparam_at (suc m) ts)
  tparam_fine ts =
      bind (suc m) ts (ident_at ts) (q.tparam_first (suc m)) (ident_fine (suc m) ts)
      (λ i us. choose_fine (suc m) r.is_comma us (q.tparam_more (suc m) i) (q.tparam_type (suc m) (i ∷ []) i.start us)
      (λ vs. bind (suc m) vs (names_more names_at i vs) (λ names. q.tparam_type (suc m) names i.start) (more_fine (suc m) i vs) (λ names ws. tparam_type_fine names i.start ws)) (tparam_type_fine (i ∷ []) i.start us))

  tparams_fine : (ts : List Symbol) → Fine (suc m) ts (q.tparams_at (suc m) ts)
  tparams_fine ts = item_fine (suc m) q.tparams (q.tparam_at (suc m)) (series q.tparams (q.tparam_at (suc m))) tparam_fine (series_fine (suc m) q.tparams (q.tparam_at (suc m)) tparam_fine) ts

  generic_fine : (ts : List Symbol) → Fine (suc m) ts (q.generic_at (suc m) ts)
  generic_fine ts = choose_fine (suc m) r.is_open_bracket ts (q.tparams_at (suc m)) (Ok ([], ts)) tparams_fine ([], refl)

  -- ---- functions

  args_fine : (ts : List Symbol) → Fine (suc m) ts (f.args_at ts)
  args_fine ts =
      choose_fine (suc m) r.is_open_bracket ts f.idents_at (Ok ([], ts))
      (item_fine (suc m) f.idents ident_at (series f.idents ident_at) (ident_fine (suc m)) (series_fine (suc m) f.idents ident_at (ident_fine (suc m)))) ([], refl)

  close_fine : (x : Receiver) (ts : List Symbol) → Fine (suc m) ts (f.receiver_close x ts)
  close_fine x ts = past_fine (suc m) r.is_close_paren ts (λ rest. Ok (x, rest)) (λ us. ([], refl))

  base_fine : (name : Option Ident) (pointer : Bool) (base : Ident) (at : ℕ) (ts : List Symbol) → Fine (suc m) ts (f.receiver_base name pointer base at ts)
  base_fine name pointer base at ts =
      bind (suc m) ts (f.args_at ts) (λ args. f.receiver_end (f.receiver name pointer base args at)) (args_fine ts)
      (λ args us. choose_fine (suc m) r.is_comma us (f.receiver_close (f.receiver name pointer base args at)) (f.receiver_close (f.receiver name pointer base args at) us) (close_fine (f.receiver name pointer base args at)) (close_fine (f.receiver name pointer base args at) us))

  pointer_fine : (name : Option Ident) (at : ℕ) (ts : List Symbol) → Fine (suc m) ts (f.receiver_pointer name at ts)
  pointer_fine name at ts = bind (suc m) ts (ident_at ts) (λ base. f.receiver_base name true base at) (ident_fine (suc m) ts) (λ base us. base_fine name true base at us)

  receiver_fine : (ts : List Symbol) → Fine (suc m) ts (f.receiver_at ts)
  receiver_fine [] = tt
  receiver_fine (t.Star at ∷ ts) = one_behind (suc m) (t.Star at) ts (f.receiver_pointer None at ts) (pointer_fine None at ts)
  receiver_fine (t.Ident i ∷ ts) =
      one_behind (suc m) (t.Ident i) ts (f.receiver_first i ts)
      (ident_or_fine (suc m) ts (ident_at ts) (λ base us. f.receiver_base (Some i) false base i.start us) (choose (past r.is_star ts) (f.receiver_pointer (Some i) i.start) (f.receiver_base None false i i.start ts)) (ident_fine (suc m) ts)
      (λ base us. base_fine (Some i) false base i.start us)
      (choose_fine (suc m) r.is_star ts (f.receiver_pointer (Some i) i.start) (f.receiver_base None false i i.start ts) (pointer_fine (Some i) i.start) (base_fine None false i i.start ts)))
  receiver_fine (k ∷ ts) = tt

  body_fine : (x : FuncDecl) (ts : List Symbol) → Fine (suc m) ts (f.body_at x ts)
  body_fine x ts =
      choose_fine (suc m) r.is_open_brace ts (f.body_by x) (Ok (x, ts))
      (λ us. bind (suc m) us (skip false [] us) (λ u. f.body_close x) (skip_fine (suc m) false [] us) (λ u vs. past_fine (suc m) r.is_close_brace vs (λ rest. Ok (x, rest)) (λ ws. ([], refl)))) ([], refl)

  func_sig_fine : (rc : Option Receiver) (i : Ident) (ps : List TParam) (ts : List Symbol) → Fine (suc m) ts (f.func_sig (suc m) rc i ps ts)
  func_sig_fine rc i ps ts = bind (suc m) ts (p.sig_at (suc m) inner ts) (λ sig. f.body_at (f.function rc i ps sig.0)) (sig_fine ts) (λ sig us. body_fine (f.function rc i ps sig.0) us)

  func_fine : (ts : List Symbol) → Fine (suc m) ts (f.func_at (suc m) ts)
  func_fine ts =
      choose_fine (suc m) r.is_open_paren ts (f.method_by (suc m)) (f.func_name (suc m) ts)
      (λ us. bind (suc m) us (f.receiver_at us) (f.method_name (suc m)) (receiver_fine us)
      (λ rc vs. bind (suc m) vs (ident_at vs) (λ i. f.func_sig (suc m) (Some rc) i []) (ident_fine (suc m) vs) (λ i ws. func_sig_fine (Some rc) i [] ws)))
      (bind (suc m) ts (ident_at ts) (f.func_generic (suc m)) (ident_fine (suc m) ts)
      (λ i us. bind (suc m) us (q.generic_at (suc m) us) (λ ps. f.func_sig (suc m) None i ps) (generic_fine us) (λ ps vs. func_sig_fine None i ps vs)))

  -- ---- constants

  exprs_fine : (ts : List Symbol) → Fine (suc m) ts (c.exprs_at (suc m) ts)
  exprs_fine ts =
      steps_fine (suc m) (c.exprs_step (suc m))
      (λ more h us. bind (suc m) us (outer_expr (suc m) us) (λ z. c.exprs_end more (z.0).expr) (expr_fine (suc m) us)
      (λ z vs. choose_fine (suc m) r.is_comma vs (c.exprs_more more (z.0).expr) (Ok ((z.0).expr ∷ [], vs)) (λ ws. value (suc m) ws (more ws) (λ xs. (z.0).expr ∷ xs) (h ws)) ([], refl)))
      (suc (length ts)) ts

  const_values_fine : (names : List Ident) (ty : Option TypeExpr) (ts : List Symbol) → Fine (suc m) ts (c.const_values (suc m) names ty ts)
  const_values_fine names ty ts = value (suc m) ts (c.exprs_at (suc m) ts) (λ xs. c.written names ty xs) (exprs_fine ts)

  const_rest_fine : (names : List Ident) (ts : List Symbol) → Fine (suc m) ts (c.const_rest (suc m) names ts)
  const_rest_fine names ts =
      choose_fine (suc m) r.is_assign ts (c.const_values (suc m) names None) (peek r.begins_type ts (c.const_typed (suc m) names ts) (c.const_empty names ts)) (const_values_fine names None)
      (peek_fine (suc m) r.begins_type ts (c.const_typed (suc m) names ts) (c.const_empty names ts)
      (bind (suc m) ts (type_at (suc m) ts) (λ ty. c.const_assign (suc m) names ty.0) (type_fine (suc m) ts) (λ ty us. past_fine (suc m) r.is_assign us (c.const_values (suc m) names (Some ty.0)) (const_values_fine names (Some ty.0))))
      ([], refl))

  const_fine : (ts : List Symbol) → Fine (suc m) ts (c.const_spec_at (suc m) ts)
  const_fine ts =
      bind (suc m) ts (ident_at ts) (c.const_first (suc m)) (ident_fine (suc m) ts)
      (λ i us. choose_fine (suc m) r.is_comma us (c.const_more (suc m) i) (c.const_rest (suc m) (i ∷ []) us)
      (λ vs. bind (suc m) vs (names_more names_at i vs) (c.const_rest (suc m)) (more_fine (suc m) i vs) (λ names ws. const_rest_fine names ws)) (const_rest_fine (i ∷ []) us))

  -- ---- imports, variables and types

  text_fine : (ts : List Symbol) → Fine (suc m) ts (s.text_at ts)
  text_fine [] = tt
  text_fine (t.Text x ∷ ts) = (t.Text x ∷ [], refl)
  text_fine (k ∷ ts) = tt

  import_fine : (ts : List Symbol) → Fine (suc m) ts (s.import_at ts)
  import_fine [] = tt
  import_fine (t.Text x ∷ ts) = (t.Text x ∷ [], refl)
  import_fine (t.Ident i ∷ ts) = one_behind (suc m) (t.Ident i) ts (s.named_import i ts) (value (suc m) ts (s.text_at ts) (λ x. d.import (Some i) x) (text_fine ts))
  import_fine (t.Dot at ∷ ts) = tt
  import_fine (k ∷ ts) = tt

  value_by_fine : (x : Top) (ts : List Symbol) → Fine (suc m) ts (s.value_by x ts)
  value_by_fine x ts = value (suc m) ts (skip true [] ts) (λ u. x) (skip_fine (suc m) true [] ts)

  vars_rest_fine : (names : List Ident) (ts : List Symbol) → Fine (suc m) ts (s.vars_rest (suc m) names ts)
  vars_rest_fine names ts =
      choose_fine (suc m) r.is_assign ts (s.value_by (d.vars names None)) (s.vars_typed (suc m) names ts) (value_by_fine (d.vars names None))
      (bind (suc m) ts (type_at (suc m) ts) (λ ty. s.value_at (d.vars names (Some ty.0))) (type_fine (suc m) ts)
      (λ ty us. choose_fine (suc m) r.is_assign us (s.value_by (d.vars names (Some ty.0))) (Ok (d.vars names (Some ty.0), us)) (value_by_fine (d.vars names (Some ty.0))) ([], refl)))

  var_fine : (ts : List Symbol) → Fine (suc m) ts (s.var_spec_at (suc m) ts)
  var_fine ts =
      bind (suc m) ts (ident_at ts) (s.vars_first (suc m)) (ident_fine (suc m) ts)
      (λ i us. choose_fine (suc m) r.is_comma us (s.vars_more (suc m) i) (s.vars_rest (suc m) (i ∷ []) us)
      (λ vs. bind (suc m) vs (names_more names_at i vs) (s.vars_rest (suc m)) (more_fine (suc m) i vs) (λ names ws. vars_rest_fine names ws)) (vars_rest_fine (i ∷ []) us))

  declared_fine : (i : Ident) (ps : List TParam) (ts : List Symbol) → Fine (suc m) ts (s.declared_by (suc m) i ps ts)
  declared_fine i ps ts =
      choose_fine (suc m) r.is_assign ts (s.alias_by (suc m) i ps) (s.defined_by (suc m) i ps ts) (λ us. value (suc m) us (type_at (suc m) us) (λ ty. d.alias i ps ty.0) (type_fine (suc m) us))
      (value (suc m) ts (type_at (suc m) ts) (λ ty. d.defined i ps ty.0) (type_fine (suc m) ts))

  type_if_fine : (b : Bool) (i : Ident) (ts : List Symbol) → Fine (suc m) ts (s.type_if b (suc m) i ts)
  type_if_fine true i ts = past_fine (suc m) r.is_open_bracket ts (s.generic_by (suc m) i) (λ us. bind (suc m) us (q.tparams_at (suc m) us) (s.declared_by (suc m) i) (tparams_fine us) (λ ps vs. declared_fine i ps vs))
  type_if_fine false i ts = declared_fine i [] ts

  spec_fine : (ts : List Symbol) → Fine (suc m) ts (s.type_spec_at (suc m) ts)
  spec_fine ts = bind (suc m) ts (ident_at ts) (s.type_first (suc m)) (ident_fine (suc m) ts) (λ i us. type_if_fine (q.opens_params us) i us)

  -- ---- groups and declarations

  group_fine : {X : Type 0} (one : List Symbol → Reply X) → ((us : List Symbol) → Fine (suc m) us (one us)) → (ts : List Symbol) → Fine (suc m) ts (s.group_at one ts)
  group_fine one h ts =
      choose_fine (suc m) r.is_open_paren ts (r.row r.is_close_paren one) (s.single_at one ts) (series_fine (suc m) (rows r.is_close_paren) one h) (value (suc m) ts (one ts) (λ x. x ∷ []) (h ts))

  decl_fine : {X : Type 0} (group more : List Symbol → Reply (List X)) → ((us : List Symbol) → Fine (suc m) us (group us)) → ((us : List Symbol) → Fine (suc m) us (more us)) → (ts : List Symbol) → Fine (suc m) ts (s.decl_at group more ts)
  decl_fine group more g h ts =
      bind (suc m) ts (group ts) (s.decl_end more) (g ts) (λ xs us. past_fine (suc m) r.is_semicolon us (s.decl_more more xs) (λ vs. value (suc m) vs (more vs) (λ ys. xs ++ ys) (h vs)))

  imports_fine : (ts : List Symbol) → Fine (suc m) ts (s.imports_at ts)
  imports_fine ts =
      steps_fine (suc m) s.import_step (λ more h us. choose_fine (suc m) r.is_import us (s.decl_at (s.group_at s.import_at) more) (Ok ([], us)) (decl_fine (s.group_at s.import_at) more (group_fine s.import_at import_fine) h) ([], refl)) (suc (length ts)) ts

  const_group_fine : (ts : List Symbol) → Fine (suc m) ts (s.const_group_at (suc m) ts)
  const_group_fine ts = value (suc m) ts (s.group_at (c.const_spec_at (suc m)) ts) (λ ws. c.counted 0 0 ws) (group_fine (c.const_spec_at (suc m)) const_fine ts)

  tops_fine : (ts : List Symbol) → Fine (suc m) ts (s.tops_at (suc m) ts)
  tops_fine ts =
      steps_fine (suc m) (s.top_step (suc m))
      (λ more h us. choose_fine (suc m) r.is_var us (s.decl_at (s.group_at (s.var_spec_at (suc m))) more) _ (decl_fine (s.group_at (s.var_spec_at (suc m))) more (group_fine (s.var_spec_at (suc m)) var_fine) h)
      (choose_fine (suc m) r.is_type us (s.decl_at (s.group_at (s.type_spec_at (suc m))) more) _ (decl_fine (s.group_at (s.type_spec_at (suc m))) more (group_fine (s.type_spec_at (suc m)) spec_fine) h)
      (choose_fine (suc m) r.is_const us (s.decl_at (s.const_group_at (suc m)) more) _ (decl_fine (s.const_group_at (suc m)) more const_group_fine h)
      (choose_fine (suc m) r.is_func us (s.decl_at (s.func_group_at (suc m)) more) (Ok ([], us))
      (decl_fine (s.func_group_at (suc m)) more (λ vs. value (suc m) vs (f.func_at (suc m) vs) (λ x. top.Func x ∷ []) (func_fine vs)) h) ([], refl)))))
      (suc (length ts)) ts

  file_fine : (ts : List Symbol) → Fine (suc m) ts (s.file_front (suc m) ts)
  unfolding file_front
  file_fine ts =
      past_fine (suc m) r.is_package ts (s.file_name (suc m))
      (λ us. bind (suc m) us (ident_at us) (s.file_clause (suc m)) (ident_fine (suc m) us)
      (λ i vs. past_fine (suc m) r.is_semicolon vs (s.file_imports (suc m) i)
      (λ ws. bind (suc m) ws (s.imports_at ws) (s.file_tops (suc m) i) (imports_fine ws) (λ xs us'. value (suc m) us' (s.tops_at (suc m) us') (λ tops. d.source_file i xs tops) (tops_fine us')))))

-- ---- a file

ended_deep : (n : ℕ) (ts : List Symbol) (left at : ℕ) (reply : Reply SourceFile) → Fine n ts reply → (reply >>= λ z. s.at_end z.0 z.1) ≡ Err (Deep left at) → IsDeepPart n ts left at
ended_deep n ts left at (Ok z) h e = at_rest z.1 e
  where
    at_rest : (rest : List Symbol) → s.at_end z.0 rest ≡ Err (Deep left at) → IsDeepPart n ts left at
    at_rest [] e' = absurd cc
    at_rest (k ∷ us) e' = absurd cc
ended_deep n ts left at (Err (Unexpected k)) h e = absurd cc
ended_deep n ts left at (Err (Deep k began)) h e =
    let one : k ≡ left = cc in
    let two : began ≡ at = cc in
    subst (λ (i : ℕ). IsDeepPart n ts i at) one (subst (λ (i : ℕ). IsDeepPart n ts k i) two h)
ended_deep n ts left at (Err (DotImport k)) h e = absurd cc
ended_deep n ts left at (Err (Call k c)) h e = absurd cc

pub deep_part : (n : ℕ) → 2 ≤ n → (ts : List Symbol) (left at : ℕ) → s.file_at n ts ≡ Err (Deep left at) → IsDeepPart n ts left at
deep_part zero two ts left at e = absurd (omega (arith, two))
deep_part (suc m) two ts left at e = ended_deep (suc m) ts left at (s.file_front (suc m) ts) (file_fine m ts) e
