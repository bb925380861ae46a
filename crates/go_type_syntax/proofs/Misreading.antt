-- A type that is read as an expression: it is one that ends there too, or the reading fails no later than that of the type.
use Rattle.std.proofs.Common.{◌≡◌, ℕ, zero, suc, ◌+◌, ◌<◌, ◌≤◌, Bool, true, false, ◌⊎◌, inl, inr, List, [], ◌∷◌, ◌++◌, length, Ok, Err, refl, sym, ap, subst, ◌∙◌, arith, length-append}
use Rattle.std.proofs.lemmas.Bool.{le-leb}
use Rattle.go_expr_syntax.specs.declared.symbols.Symbol.{Symbol}
use Rattle.go_expr_syntax.specs.declared.symbols.Symbol.TheVariants as t
use Rattle.go_expr_syntax.specs.declared.symbols.Ident.{Ident}
use Rattle.go_expr_syntax.specs.declared.faults.Fault.{Fault}
use Rattle.go_expr_syntax.specs.declared.faults.Fault.TheVariants.{Unexpected, Deep, DotImport, Call}
use Rattle.go_expr_syntax.specs.declared.tree.NameExpr.{NameExpr}
use Rattle.go_type_syntax.specs.declared.tree.TypeExpr.{TypeExpr}
use Rattle.go_type_syntax.specs.declared.tree.TypeExpr.TheVariants as y
use Rattle.go_expr_syntax.specs.Reading.{Reply, ◌>>=◌, told_at, unexpected, starts, begins_type, is_open_bracket, Fit}
use Rattle.go_expr_syntax.specs.Either.{needed, instead_of, either}
use Rattle.go_expr_syntax.specs.Names.{dotted}
use Rattle.go_type_syntax.specs.Grammar as g
use Rattle.go_type_syntax.specs.Grammar.{IsArgs}
use Rattle.go_expr_syntax.specs.Expressions.{constant, enclosed}
use Rattle.go_type_syntax.specs.Elements.{args_by}
use Rattle.go_expr_syntax.specs.Operands.{no_expr, begins_expr, operand_by, Sized, Reader, named_by, enclosed_end, uncalled, climb_of, climb, level_by, expr_of, expr_at}
use Rattle.go_type_syntax.specs.Types.{array_end, paren_end, readers, type_at}
use Rattle.go_expr_syntax.proofs.Viable.{ReadsAt}
use Rattle.go_type_syntax.proofs.Standing.{TypeAt}
use Rattle.go_expr_syntax.proofs.Agreeing.{Agrees, untold, sized}
use Rattle.go_type_syntax.proofs.Follows.{goes_on, Free, next_so}
use Rattle.go_type_syntax.proofs.TypeReads.{type_reads, type_none}
use Rattle.go_type_syntax.proofs.ElemReads.{args_read}

-- ---- which of two readings counts

-- what is written for the first is read so by both together
pub first_counts : {X : Type 0} (n m : ℕ) (x : X) (rest : List Symbol) (first second : Reply X) → Agrees n m x rest first → Agrees n m x rest (either first second)
first_counts n m x rest (Ok z) second h = h
first_counts n m x rest (Err (Deep k began)) second h = h
first_counts n m x rest (Err (Unexpected k)) second h = absurd h
first_counts n m x rest (Err (DotImport k)) second h = absurd h
first_counts n m x rest (Err (Call k at)) second h = absurd h

-- the first reading fails no later than the second, and with a path that is too long only where that has one too
abbrev pub Loses : {X Y : Type 0} → Reply X → Reply Y → Type 0
Loses (Ok z) second = ⊥
Loses (Err (Deep k began)) (Ok z) = ⊥
Loses (Err (Deep k began)) (Err f) = Unit {0}
Loses (Err (Unexpected k)) second = needed second ≤ k
Loses (Err (DotImport k)) second = needed second ≤ k
Loses (Err (Call k at)) second = needed second ≤ k

yielded : {X : Type 0} (n m : ℕ) (x : X) (rest : List Symbol) (f : Fault) (k : ℕ) (second : Reply X) → needed second ≤ k → Agrees n m x rest second → Agrees n m x rest (instead_of f k second)
yielded n m x rest f k second le h = rw (le-leb (needed second) k le) h

deep_both : {X : Type 0} (n m : ℕ) (x : X) (rest : List Symbol) (k began : ℕ) (second : Reply X) → Loses {X = X} (Err (Deep k began)) second → Agrees n m x rest second → n < m
deep_both n m x rest k began (Ok z) l h = absurd l
deep_both n m x rest k began (Err (Deep j at)) l h = h
deep_both n m x rest k began (Err (Unexpected j)) l h = absurd h
deep_both n m x rest k began (Err (DotImport j)) l h = absurd h
deep_both n m x rest k began (Err (Call j at)) l h = absurd h

-- what is written for the second is read so by both together, where the first loses
pub second_counts : {X : Type 0} (n m : ℕ) (x : X) (rest : List Symbol) (first second : Reply X) → Loses first second → Agrees n m x rest second → Agrees n m x rest (either first second)
second_counts n m x rest (Ok z) second l h = absurd l
second_counts n m x rest (Err (Deep k began)) second l h = deep_both n m x rest k began second l h
second_counts n m x rest (Err (Unexpected k)) second l h = yielded n m x rest (Unexpected k) k second l h
second_counts n m x rest (Err (DotImport k)) second l h = yielded n m x rest (DotImport k) k second l h
second_counts n m x rest (Err (Call k at)) second l h = yielded n m x rest (Call k at) k second l h

-- ---- how far a reading goes

shorter : (front rest : List Symbol) → length rest ≤ length (front ++ rest)
shorter front rest = let e : length (front ++ rest) ≡ length front + length rest = length-append {A = Symbol} front rest in omega (arith, e)

-- what is read as it is written goes as far as its first token at least
pub needed_within : {X : Type 0} (F : List Symbol → X → List Symbol → Type 0) (p : List Symbol → Reply X) (ts : List Symbol) (n m : ℕ) (x : X) (rest : List Symbol) (reply : Reply X) → ReadsAt F p ts reply → Agrees n m x rest reply → needed reply ≤ length ts
needed_within F p ts n m x rest (Ok z) h a = rw h.split (shorter h.front z.1)
needed_within F p ts n m x rest (Err (Deep k began)) h a =
    let place : Deep k began ≡ Deep (length h.rest) began = h.place in
    let e : k ≡ length h.rest = cc in
    rw (e, h.split) (shorter h.front h.rest)
needed_within F p ts n m x rest (Err (Unexpected k)) h a = absurd a
needed_within F p ts n m x rest (Err (DotImport k)) h a = absurd a
needed_within F p ts n m x rest (Err (Call k at)) h a = absurd a

-- ---- a type's tokens, read as an expression

-- what stands behind a type in brackets or parentheses
abbrev pub ends_inner : Symbol → Bool
ends_inner (t.Comma at) = true
ends_inner (t.CloseBracket at) = true
ends_inner (t.CloseParen at) = true
ends_inner _ = false

-- what goes on with no expression: the end of a type in brackets, or the bracket before its arguments
abbrev pub ends_expr : Symbol → Bool
ends_expr (t.OpenBracket at) = true
ends_expr k = ends_inner k

no_climb : (l : ℕ) (inner : Reader) (x : Sized) (rest : List Symbol) → starts ends_expr rest ≡ true → climb l inner x rest ≡ Ok (x, rest)
unfolding climb_of
no_climb l inner x [] e = absurd cc
no_climb l inner x (t.OpenBracket at ∷ rest) e = refl
no_climb l inner x (t.Comma at ∷ rest) e = refl
no_climb l inner x (t.CloseBracket at ∷ rest) e = refl
no_climb l inner x (t.CloseParen at ∷ rest) e = refl
no_climb l inner x (_ ∷ rest) e = absurd cc

level_up : (n : ℕ) (inner : ℕ → Reader) (l : ℕ) (ts : List Symbol) (x : Sized) (rest : List Symbol) → starts ends_expr rest ≡ true → level_by n inner l ts ≡ Ok (x, rest) → level_by n inner (suc l) ts ≡ Ok (x, rest)
level_up n inner l ts x rest e h = rw h (no_climb (suc l) (inner l) x rest e)

-- an operand alone
pub operand_alone : (n : ℕ) (ts : List Symbol) (x : Sized) (rest : List Symbol) → starts ends_expr rest ≡ true → level_by n (expr_of n) 0 ts ≡ Ok (x, rest) → expr_at (suc n) ts ≡ Ok (x, rest)
unfolding expr_of
operand_alone n ts x rest e h =
    level_up n (expr_of n) 4 ts x rest e (level_up n (expr_of n) 3 ts x rest e (level_up n (expr_of n) 2 ts x rest e (level_up n (expr_of n) 1 ts x rest e (level_up n (expr_of n) 0 ts x rest e h))))

pub operand_fails : (n : ℕ) (ts : List Symbol) (f : Fault) → level_by n (expr_of n) 0 ts ≡ Err f → expr_at (suc n) ts ≡ Err f
unfolding expr_of
operand_fails n ts f h = rw h refl

-- read as an expression it ends where the type does, or before arguments, or it loses
abbrev pub Misread : Reply Sized → Reply (Fit TypeExpr) → Type 0
Misread (Ok x) (Ok z) = (x.1 ≡ z.1) ⊎ ((starts is_open_bracket x.1 ≡ true) × (length z.1 ≤ length x.1))
Misread (Ok x) (Err (Deep j began)) = (starts is_open_bracket x.1 ≡ true) × (j ≤ length x.1)
Misread (Ok x) (Err f) = ⊥
Misread (Err f) second = Loses {X = Sized} (Err f) second

-- told at another place
needed_told : {X : Type 0} (at : ℕ) (reply : Reply X) → needed (told_at at reply) ≡ needed reply
needed_told at (Ok z) = refl
needed_told at (Err (Unexpected k)) = refl
needed_told at (Err (Deep k began)) = refl
needed_told at (Err (DotImport k)) = refl
needed_told at (Err (Call k c)) = refl

deep_told : (X : Type 0) {Y : Type 0} (k began at : ℕ) (second : Reply Y) → Loses {X = X} (Err (Deep k began)) second → Loses {X = X} (Err (Deep k began)) (told_at at second)
deep_told X k began at (Ok z) h = h
deep_told X k began at (Err (Unexpected j)) h = tt
deep_told X k began at (Err (Deep j c)) h = tt
deep_told X k began at (Err (DotImport j)) h = tt
deep_told X k began at (Err (Call j c)) h = tt

loses_told : (X : Type 0) {Y : Type 0} (f : Fault) (at : ℕ) (second : Reply Y) → Loses {X = X} (Err f) second → Loses {X = X} (Err f) (told_at at second)
loses_told X (Deep k began) at second h = deep_told X k began at second h
loses_told X (Unexpected k) at second h = rw (needed_told at second) h
loses_told X (DotImport k) at second h = rw (needed_told at second) h
loses_told X (Call k c) at second h = rw (needed_told at second) h

misread_told : (first : Reply Sized) (at : ℕ) (second : Reply (Fit TypeExpr)) → Misread first second → Misread first (told_at at second)
misread_told (Err f) at second h = loses_told Sized f at second h
misread_told (Ok x) at (Ok z) h = h
misread_told (Ok x) at (Err (Deep k began)) h = h
misread_told (Ok x) at (Err (Unexpected k)) h = absurd h
misread_told (Ok x) at (Err (DotImport k)) h = absurd h
misread_told (Ok x) at (Err (Call k c)) h = absurd h

deep_anywhere : (X : Type 0) {Y : Type 0} (k began at : ℕ) (second : Reply Y) → Loses {X = X} (Err (Deep k began)) second → Loses {X = X} (Err (Deep k at)) second
deep_anywhere X k began at (Ok z) h = h
deep_anywhere X k began at (Err f) h = tt

-- what is read first of either, told at its start
pub loses_first : {A X Y : Type 0} (at : ℕ) (r : Reply A) (q : A × List Symbol → Reply X) (second : Reply Y) → Loses (r >>= q) second → Loses (told_at at r >>= q) second
loses_first at (Ok z) q second h = h
loses_first {X = X} at (Err (Deep k began)) q second h = deep_anywhere X k began at second h
loses_first at (Err (Unexpected k)) q second h = h
loses_first at (Err (DotImport k)) q second h = h
loses_first at (Err (Call k c)) q second h = h

deep_second : (X Y : Type 0) (f : Fault) (j began at : ℕ) → Loses {X = X} {Y = Y} (Err f) (Err (Deep j began)) → Loses {X = X} {Y = Y} (Err f) (Err (Deep j at))
deep_second X Y (Deep k c) j began at h = tt
deep_second X Y (Unexpected k) j began at h = h
deep_second X Y (DotImport k) j began at h = h
deep_second X Y (Call k c) j began at h = h

pub loses_second : {A X Y : Type 0} (first : Reply X) (at : ℕ) (r : Reply A) (q : A × List Symbol → Reply Y) → Loses first (r >>= q) → Loses first (told_at at r >>= q)
loses_second first at (Ok z) q h = h
loses_second first at (Err (Unexpected j)) q h = h
loses_second first at (Err (DotImport j)) q h = h
loses_second first at (Err (Call j c)) q h = h
loses_second (Ok z) at (Err (Deep j began)) q h = absurd h
loses_second {X = X} {Y = Y} (Err f) at (Err (Deep j began)) q h = deep_second X Y f j began at h

-- a token that begins no expression
pub other_misread : (n m : ℕ) (ts : List Symbol) (ty : TypeExpr) (rest : List Symbol) → expr_at n ts ≡ unexpected ts → Agrees n m (sized n m ty) rest (type_at n ts) → Misread (expr_at n ts) (type_at n ts)
other_misread n m ts ty rest e a = rw e (needed_within TypeAt (type_at n) ts n m (sized n m ty) rest (type_at n ts) (type_reads n ts) a)

expr_none : (ts : List Symbol) → expr_at 0 ts ≡ no_expr ts
unfolding expr_of
expr_none ts = refl

-- ---- names

named_step : (l m : ℕ) (ty : TypeExpr) (x : Sized) (us rest : List Symbol) (reply : Reply (Fit TypeExpr)) → Agrees (suc l) m (sized (suc l) m ty) rest reply → needed reply ≤ length us
    → ((us ≡ rest) × (m ≡ 1)) ⊎ (starts is_open_bracket us ≡ true) → Misread (Ok (x, us)) reply
named_step l m ty x us rest (Ok w) a le (inl e) = inl (e.0 ∙ sym a.1)
named_step l m ty x us rest (Ok w) a le (inr o) = inr (o, le)
named_step l m ty x us rest (Err (Deep j began)) a le (inl e) = let one : m ≡ 1 = e.1 in absurd (omega (arith, a, one))
named_step l m ty x us rest (Err (Deep j began)) a le (inr o) = (o, le)
named_step l m ty x us rest (Err (Unexpected j)) a le e = absurd a
named_step l m ty x us rest (Err (DotImport j)) a le e = absurd a
named_step l m ty x us rest (Err (Call j at)) a le e = absurd a

name_operand : (l : ℕ) (inner : Reader) (x : NameExpr) (us : List Symbol) → starts ends_expr us ≡ true → named_by l inner x us ≡ Ok ((constant x, l), us)
name_operand l inner x [] e = absurd cc
name_operand l inner x (t.OpenParen at ∷ us) e = absurd cc
name_operand l inner x (k ∷ us) e = refl

name_expr : (l : ℕ) (i : Ident) (ws : List Symbol) (x : NameExpr) (us : List Symbol) → dotted i ws ≡ Ok (x, us) → starts ends_expr us ≡ true → expr_at (suc l) (t.Ident i ∷ ws) ≡ Ok ((constant x, l), us)
name_expr l i ws x us d e =
    operand_alone l (t.Ident i ∷ ws) (constant x, l) us e
    (ap (λ (r : Reply NameExpr). r >>= λ z. named_by l (expr_of l 5) z.0 z.1) d ∙ name_operand l (expr_of l 5) x us e)

pub name_type : (l : ℕ) (i : Ident) (ws : List Symbol) (x : NameExpr) (us : List Symbol) → dotted i ws ≡ Ok (x, us) → type_at (suc l) (t.Ident i ∷ ws) ≡ told_at i.start (args_by l (type_at l) x us)
unfolding readers
name_type l i ws x us d = ap (λ (r : Reply NameExpr). told_at i.start (r >>= λ z. args_by l (type_at l) z.0 z.1)) d

pub name_misread : (n m : ℕ) (i : Ident) (ws : List Symbol) (x : NameExpr) (us : List Symbol) (ty : TypeExpr) (rest : List Symbol) → dotted i ws ≡ Ok (x, us) → starts ends_expr us ≡ true → ((us ≡ rest) × (m ≡ 1)) ⊎ (starts is_open_bracket us ≡ true)
    → Agrees n m (sized n m ty) rest (type_at n (t.Ident i ∷ ws)) → Misread (expr_at n (t.Ident i ∷ ws)) (type_at n (t.Ident i ∷ ws))
name_misread zero m i ws x us ty rest d e o a = rw (expr_none (t.Ident i ∷ ws), type_none 0 (t.Ident i ∷ ws) refl) tt
name_misread (suc l) m i ws x us ty rest d e o a =
    let b : Agrees (suc l) m (sized (suc l) m ty) rest (args_by l (type_at l) x us) =
    untold (suc l) m (sized (suc l) m ty) rest i.start (args_by l (type_at l) x us) (subst (Agrees (suc l) m (sized (suc l) m ty) rest) (name_type l i ws x us d) a) in
    let le = needed_within _ (args_by l (type_at l) x) us (suc l) m (sized (suc l) m ty) rest (args_by l (type_at l) x us) (args_read l (type_at l) (type_reads l) i x us) b in
    rw (name_expr l i ws x us d e, name_type l i ws x us d) (misread_told (Ok ((constant x, l), us)) i.start (args_by l (type_at l) x us) (named_step l m ty (constant x, l) us rest (args_by l (type_at l) x us) b le o))

-- ---- parentheses

loses_more : (f : Fault) (w v : Fit TypeExpr × List Symbol) → length v.1 ≤ length w.1 → Loses {X = Sized} (Err f) (Ok w) → Loses {X = Sized} (Err f) (Ok v)
loses_more (Deep k began) w v le h = absurd h
loses_more (Unexpected k) w v le h = let o : length w.1 ≤ k = h in omega (arith, le, o)
loses_more (DotImport k) w v le h = let o : length w.1 ≤ k = h in omega (arith, le, o)
loses_more (Call k at) w v le h = let o : length w.1 ≤ k = h in omega (arith, le, o)

abbrev type_end : ℕ → Reply (Fit TypeExpr) → Reply (Fit TypeExpr)
type_end at reply = reply >>= λ ty. paren_end at ty.0 ty.1

abbrev expr_end : ℕ → Reply Sized → Reply Sized
expr_end at reply = reply >>= λ x. enclosed_end at x.0 x.1

not_called : (x : Sized) (rest : List Symbol) → starts ends_inner rest ≡ true → uncalled x rest ≡ Ok (x, rest)
not_called x [] e = absurd cc
not_called x (t.OpenParen at ∷ rest) e = absurd cc
not_called x (k ∷ rest) e = refl

ends_so : (k : Symbol) → ends_inner k ≡ true → ends_expr k ≡ true
ends_so (t.OpenBracket at) e = refl
ends_so k e = e

inner_expr : (rest : List Symbol) → starts ends_inner rest ≡ true → starts ends_expr rest ≡ true
inner_expr [] e = absurd cc
inner_expr (k ∷ rest) e = ends_so k e

no_paren_end : (at : ℕ) (x : Sized) (us : List Symbol) → starts is_open_bracket us ≡ true → enclosed_end at x us ≡ unexpected us
no_paren_end at x [] e = absurd cc
no_paren_end at x (t.OpenBracket o ∷ us) e = refl
no_paren_end at x (_ ∷ us) e = absurd cc

enclosed_same : (at c : ℕ) (x : Sized) (us rest : List Symbol) → us ≡ t.CloseParen c ∷ rest → starts ends_inner rest ≡ true → enclosed_end at x us ≡ Ok ((enclosed at x.0, x.1), rest)
enclosed_same at c x us rest e o = rw e (not_called (enclosed at x.0, x.1) rest o)

-- what the type in parentheses answers, where the type inside does so
type_closed : (at c : ℕ) (w : Fit TypeExpr × List Symbol) (rest : List Symbol) → w.1 ≡ t.CloseParen c ∷ rest → type_end at (Ok w) ≡ Ok ((y.Paren w.0.0 at, w.0.1), rest)
type_closed at c w rest e = rw e refl

paren_fails : (l m at c : ℕ) (z : Fit TypeExpr) (rest : List Symbol) (f : Fault) (reply : Reply (Fit TypeExpr)) → Agrees l m z (t.CloseParen c ∷ rest) reply → Loses {X = Sized} (Err f) reply → Loses {X = Sized} (Err f) (type_end at reply)
paren_fails l m at c z rest f (Ok w) a h =
    let same : length w.1 ≡ suc (length rest) = ap length a.1 in
    rw (type_closed at c w rest a.1) (loses_more f w ((y.Paren w.0.0 at, w.0.1), rest) (omega (arith, same)) h)
paren_fails l m at c z rest f (Err (Deep j began)) a h = h
paren_fails l m at c z rest f (Err (Unexpected j)) a h = absurd a
paren_fails l m at c z rest f (Err (DotImport j)) a h = absurd a
paren_fails l m at c z rest f (Err (Call j k)) a h = absurd a

paren_step : (l m at c : ℕ) (z : Fit TypeExpr) (rest : List Symbol) (first : Reply Sized) (reply : Reply (Fit TypeExpr)) → Agrees l m z (t.CloseParen c ∷ rest) reply → Misread first reply → starts ends_inner rest ≡ true → Misread (expr_end at first) (type_end at reply)
paren_step l m at c z rest (Err f) reply a h e = paren_fails l m at c z rest f reply a h
paren_step l m at c z rest (Ok x) (Ok w) a (inl same) e = rw (enclosed_same at c x.0 x.1 rest (same ∙ a.1) e, type_closed at c w rest a.1) (inl refl)
paren_step l m at c z rest (Ok x) (Ok w) a (inr o) e =
    let same : length w.1 ≡ suc (length rest) = ap length a.1 in
    let le : length w.1 ≤ length x.1 = o.1 in
    rw (no_paren_end at x.0 x.1 o.0, type_closed at c w rest a.1) (omega (arith, same, le))
paren_step l m at c z rest (Ok x) (Err (Deep j began)) a h e = rw (no_paren_end at x.0 x.1 h.0) h.1
paren_step l m at c z rest (Ok x) (Err (Unexpected j)) a h e = absurd a
paren_step l m at c z rest (Ok x) (Err (DotImport j)) a h e = absurd a
paren_step l m at c z rest (Ok x) (Err (Call j k)) a h e = absurd a

paren_type : (l at : ℕ) (us : List Symbol) → type_at (suc l) (t.OpenParen at ∷ us) ≡ told_at at (type_end at (type_at l us))
unfolding readers
paren_type l at us = refl

-- an expression in parentheses that nothing goes on with is all there is to read
paren_expr : (l at : ℕ) (us : List Symbol) (reply : Reply Sized) → expr_end at (expr_at l us) ≡ reply → ((x : Sized × List Symbol) → reply ≡ Ok x → starts ends_expr x.1 ≡ true) → expr_at (suc l) (t.OpenParen at ∷ us) ≡ reply
paren_expr l at us (Ok x) h o = operand_alone l (t.OpenParen at ∷ us) x.0 x.1 (o x refl) h
paren_expr l at us (Err f) h o = operand_fails l (t.OpenParen at ∷ us) f h

paren_ends : (l m at c : ℕ) (z : Fit TypeExpr) (rest : List Symbol) (first : Reply Sized) (reply : Reply (Fit TypeExpr)) → Agrees l m z (t.CloseParen c ∷ rest) reply → Misread first reply → starts ends_inner rest ≡ true
    → (x : Sized × List Symbol) → expr_end at first ≡ Ok x → starts ends_expr x.1 ≡ true
paren_ends l m at c z rest (Err f) reply a h e x q = absurd cc
paren_ends l m at c z rest (Ok w) (Ok v) a (inl same) e x q =
    let o : Ok x ≡ Ok ((enclosed at w.0.0, w.0.1), rest) = sym q ∙ enclosed_same at c w.0 w.1 rest (same ∙ a.1) e in
    let p : x ≡ ((enclosed at w.0.0, w.0.1), rest) = cc in
    rw p (inner_expr rest e)
paren_ends l m at c z rest (Ok w) (Ok v) a (inr o) e x q = let p : Ok x ≡ unexpected w.1 = sym q ∙ no_paren_end at w.0 w.1 o.0 in absurd cc
paren_ends l m at c z rest (Ok w) (Err (Deep j began)) a h e x q = let p : Ok x ≡ unexpected w.1 = sym q ∙ no_paren_end at w.0 w.1 h.0 in absurd cc
paren_ends l m at c z rest (Ok w) (Err (Unexpected j)) a h e x q = absurd a
paren_ends l m at c z rest (Ok w) (Err (DotImport j)) a h e x q = absurd a
paren_ends l m at c z rest (Ok w) (Err (Call j k)) a h e x q = absurd a

pub paren_misread : (n m at c : ℕ) (us : List Symbol) (ty : TypeExpr) (rest : List Symbol) → starts ends_inner rest ≡ true → ((l : ℕ) → Agrees l m (sized l m ty) (t.CloseParen c ∷ rest) (type_at l us)) → ((l : ℕ) → Misread (expr_at l us) (type_at l us))
    → Misread (expr_at n (t.OpenParen at ∷ us)) (type_at n (t.OpenParen at ∷ us))
paren_misread zero m at c us ty rest e a h = rw (expr_none (t.OpenParen at ∷ us), type_none 0 (t.OpenParen at ∷ us) refl) tt
paren_misread (suc l) m at c us ty rest e a h =
    rw (paren_expr l at us (expr_end at (expr_at l us)) refl (paren_ends l m at c (sized l m ty) rest (expr_at l us) (type_at l us) (a l) (h l) e), paren_type l at us)
    (misread_told (expr_end at (expr_at l us)) at (type_end at (type_at l us)) (paren_step l m at c (sized l m ty) rest (expr_at l us) (type_at l us) (a l) (h l) e))

-- ---- after the bracket: the length of an array, or the first argument

-- What stands behind the first argument, where the second reading answers so: more of them, or the bracket that closes, and then no type.
pub data Closes {X : Type 0} (second : Reply X) : List Symbol → Type 0 where
  goes : (s : ℕ) (us : List Symbol) → needed second ≤ suc (length us) → Closes second (t.Comma s ∷ us)
  ends : (c : ℕ) (us : List Symbol) → ((l : ℕ) → type_at l us ≡ unexpected us) → needed second ≤ length us → Closes second (t.CloseBracket c ∷ us)

abbrev pub array_then : {X : Type 0} → ℕ → ℕ → (Fit TypeExpr → List Symbol → Reply X) → Reply Sized → Reply X
array_then l at f first = (first >>= λ x. array_end (type_at l) at x.0 x.1) >>= λ z. f z.0 z.1

closed_loses : {X : Type 0} (l at : ℕ) (f : Fit TypeExpr → List Symbol → Reply X) (second : Reply X) (x : Sized) (us : List Symbol) → Closes second us → Loses (array_then l at f (Ok (x, us))) second
closed_loses l at f second x us (goes s vs le) = le
closed_loses l at f second x us (ends c vs untyped le) = rw (untyped l) le

no_array_end : (inner : List Symbol → Reply (Fit TypeExpr)) (at : ℕ) (x : Sized) (us : List Symbol) → starts is_open_bracket us ≡ true → array_end inner at x us ≡ unexpected us
no_array_end inner at x [] e = absurd cc
no_array_end inner at x (t.OpenBracket o ∷ us) e = refl
no_array_end inner at x (_ ∷ us) e = absurd cc

closes_within : {X : Type 0} (second : Reply X) (us : List Symbol) → Closes second us → needed second ≤ length us
closes_within second us (goes s vs le) = le
closes_within second us (ends c vs untyped le) = omega (arith, le)

fault_loses : {X : Type 0} (f : Fault) (k : ℕ) (z : Fit TypeExpr × List Symbol) (second : Reply X) → Loses {X = Sized} (Err f) (Ok z) → needed second ≤ length z.1 → Loses {X = X} (Err f) second
fault_loses (Deep j began) k z second h le = absurd h
fault_loses (Unexpected j) k z second h le = let o : length z.1 ≤ j = h in omega (arith, le, o)
fault_loses (DotImport j) k z second h le = let o : length z.1 ≤ j = h in omega (arith, le, o)
fault_loses (Call j at) k z second h le = let o : length z.1 ≤ j = h in omega (arith, le, o)

deep_loses : (X : Type 0) (f : Fault) (j began : ℕ) → Loses {X = Sized} {Y = Fit TypeExpr} (Err f) (Err (Deep j began)) → Loses {X = X} {Y = X} (Err f) (Err (Deep j began))
deep_loses X (Deep k at) j began h = h
deep_loses X (Unexpected k) j began h = h
deep_loses X (DotImport k) j began h = h
deep_loses X (Call k at) j began h = h

abbrev reply_of : Fit TypeExpr × List Symbol → Reply (Fit TypeExpr)
reply_of w = Ok w

answers : (w : Fit TypeExpr × List Symbol) (z : Fit TypeExpr) (rest : List Symbol) → w.0 ≡ z → w.1 ≡ rest → reply_of w ≡ Ok (z, rest)
answers w z rest e f = rw (sym e, sym f) refl

-- The reading as an array loses, where the first argument is read so, as an expression and as a type.
pub array_loses : {X : Type 0} (l m at : ℕ) (z : Fit TypeExpr) (rest : List Symbol) (f : Fit TypeExpr → List Symbol → Reply X) (first : Reply Sized) (reply : Reply (Fit TypeExpr)) (more : Fit TypeExpr → List Symbol → Reply X) → Misread first reply → Agrees l m z rest reply
    → (reply ≡ Ok (z, rest) → m ≤ l → Closes (more z rest) rest) → Loses (array_then l at f first) (reply >>= λ w. more w.0 w.1)
array_loses l m at z rest f (Err g) (Ok w) more h a o = rw (a.0, a.1) (fault_loses g 0 w (more z rest) h (rw a.1 (closes_within (more z rest) rest (o (answers w z rest a.0 a.1) a.2))))
array_loses l m at z rest f (Err g) (Err (Deep j began)) more h a o = deep_loses _ g j began h
array_loses l m at z rest f (Ok x) (Ok w) more (inl same) a o = rw (same, a.0, a.1) (closed_loses l at f (more z rest) x.0 rest (o (answers w z rest a.0 a.1) a.2))
array_loses l m at z rest f (Ok x) (Ok w) more (inr p) a o =
    let le : length w.1 ≤ length x.1 = p.1 in
    let within : needed (more z rest) ≤ length rest = closes_within (more z rest) rest (o (answers w z rest a.0 a.1) a.2) in
    let same : length w.1 ≡ length rest = ap length a.1 in
    rw (no_array_end (type_at l) at x.0 x.1 p.0, a.0, a.1) (omega (arith, le, within, same))
array_loses l m at z rest f (Ok x) (Err (Deep j began)) more h a o = rw (no_array_end (type_at l) at x.0 x.1 h.0) h.1
array_loses l m at z rest f first (Err (Unexpected j)) more h a o = absurd a
array_loses l m at z rest f first (Err (DotImport j)) more h a o = absurd a
array_loses l m at z rest f first (Err (Call j k)) more h a o = absurd a

-- ---- a token that begins no expression

no_operand : (n : ℕ) (first inner : Reader) (k : Symbol) (us : List Symbol) → begins_expr k ≡ false → operand_by n first inner (k ∷ us) ≡ unexpected (k ∷ us)
no_operand n first inner (t.Literal token) us e = absurd cc
no_operand n first inner (t.Text s) us e = absurd cc
no_operand n first inner (t.Ident i) us e = absurd cc
no_operand n first inner (t.OpenParen at) us e = absurd cc
no_operand n first inner (t.Operator op at) us e = rw e refl
no_operand n first inner (_) us e = refl

pub no_expr_at : (n : ℕ) (k : Symbol) (us : List Symbol) → begins_expr k ≡ false → expr_at n (k ∷ us) ≡ unexpected (k ∷ us)
no_expr_at zero k us e = rw (expr_none (k ∷ us), e) refl
no_expr_at (suc n) k us e = operand_fails n (k ∷ us) (Unexpected (length (k ∷ us))) (no_operand n (expr_of n 0) (expr_of n 5) k us e)

-- ---- what stands behind a type's name

inner_free_next : (k : Symbol) → ends_inner k ≡ true → goes_on k ≡ false
inner_free_next (t.Comma at) e = refl
inner_free_next (t.CloseBracket at) e = refl
inner_free_next (t.CloseParen at) e = refl
inner_free_next _ e = absurd cc

pub inner_free : (rest : List Symbol) → starts ends_inner rest ≡ true → Free rest
inner_free rest e = next_so ends_inner goes_on true false rest inner_free_next (λ d. refl) e

pub args_end : (m : ℕ) (us : List Symbol) (args : List TypeExpr) (rest : List Symbol) → IsArgs m us args rest → starts ends_inner rest ≡ true → starts ends_expr us ≡ true
args_end m us args rest (g.no_args r) e = inner_expr r e
args_end m us args rest (g.some_args n o ts xs r d b) e = refl

pub args_or : (m : ℕ) (us : List Symbol) (args : List TypeExpr) (rest : List Symbol) → IsArgs m us args rest → ((us ≡ rest) × (suc m ≡ 1)) ⊎ (starts is_open_bracket us ≡ true)
args_or m us args rest (g.no_args r) = inl (refl, refl)
args_or m us args rest (g.some_args n o ts xs r d b) = inr refl

-- ---- a token that begins no type

pub untyped : (us : List Symbol) → starts begins_type us ≡ false → (l : ℕ) → type_at l us ≡ unexpected us
unfolding readers
untyped us e zero = rw e refl
untyped [] e (suc l) = refl
untyped (t.Ident i ∷ us) e (suc l) = absurd cc
untyped (t.OpenParen at ∷ us) e (suc l) = absurd cc
untyped (t.Star at ∷ us) e (suc l) = absurd cc
untyped (t.OpenBracket at ∷ us) e (suc l) = absurd cc
untyped (t.Map at ∷ us) e (suc l) = absurd cc
untyped (t.Chan at ∷ us) e (suc l) = absurd cc
untyped (t.Arrow at ∷ us) e (suc l) = absurd cc
untyped (t.Func at ∷ us) e (suc l) = absurd cc
untyped (t.Struct at ∷ us) e (suc l) = absurd cc
untyped (t.Interface at ∷ us) e (suc l) = absurd cc
untyped (_ ∷ us) e (suc l) = refl
