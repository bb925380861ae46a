-- A field that is written is read again, where the types in it are.
use Rattle.std.proofs.Common.{◌≡◌, ℕ, zero, suc, ◌-◌, ◌≤◌, Bool, true, false, List, [], ◌∷◌, refl, arith}
use Rattle.go_expr_syntax.specs.declared.symbols.Symbol.{Symbol}
use Rattle.go_expr_syntax.specs.declared.symbols.Symbol.TheVariants as t
use Rattle.go_expr_syntax.specs.declared.symbols.Ident.{Ident}
use Rattle.go_type_syntax.specs.declared.tree.FieldExpr.{FieldExpr}
use Rattle.go_type_syntax.specs.declared.tree.TypeExpr.{TypeExpr}
use Rattle.go_type_syntax.specs.declared.tree.TypeExpr.TheVariants as y
use Rattle.go_expr_syntax.specs.Reading.{starts, begins_type, is_comma, is_open_bracket, start_of, peek}
use Rattle.go_expr_syntax.specs.Names.{own, of_package, IsNames, one, more, IsTag}
use Rattle.go_type_syntax.specs.Grammar as g
use Rattle.go_type_syntax.specs.Grammar.{field, IsNamed}
use Rattle.go_type_syntax.specs.Types.{tagged, shared_by, lone_by, only_by, sole_by, more_names, field_by, type_at}
use Rattle.go_expr_syntax.specs.Reading.{shows_embedded}
use Rattle.go_expr_syntax.proofs.Agreeing.{Agrees, agrees_bind, sized, choose_other, names_again}
use Rattle.go_type_syntax.proofs.Misreading.{Loses, first_counts, second_counts}
use Rattle.go_type_syntax.proofs.Follows.{no_comma, no_embedded, ends_field, tag_again, tag_no_comma, tag_embedded}

tagged_again : (n m k : ℕ) (names : List Ident) (ty : TypeExpr) (at : ℕ) (ts : List Symbol) (tag : List ℕ) (rest : List Symbol) → IsTag ts tag rest → starts ends_field rest ≡ true → m ≤ n → Agrees n m (field names ty tag at, k) rest (tagged names (ty, k) at ts)
tagged_again n m k names ty at ts tag rest w e f = rw (tag_again ts tag rest w e) (refl, refl, f)

typed_again : (n m : ℕ) (names : List Ident) (at : ℕ) (us : List Symbol) (ty : TypeExpr) (vs : List Symbol) (tag : List ℕ) (rest : List Symbol) → Agrees n m (sized n m ty) vs (type_at n us) → IsTag vs tag rest → starts ends_field rest ≡ true
    → Agrees n m (sized n m (field names ty tag at)) rest (shared_by (type_at n) names at us)
typed_again n m names at us ty vs tag rest h w e =
    agrees_bind n m (sized n m ty) vs n m (sized n m (field names ty tag at)) rest (type_at n us) (λ z ws. tagged names z at ws) h (λ d. d) (λ f. tagged_again n m (n - m) names ty at vs tag rest w e f)

-- after a first identifier and no comma
first_opens : (n : ℕ) (i : Ident) (us : List Symbol) → starts is_comma us ≡ false → field_by n (type_at n) (t.Ident i ∷ us) ≡ peek shows_embedded us (lone_by n (type_at n) i us) (sole_by n (type_at n) i us)
first_opens n i us e = choose_other is_comma us (more_names (type_at n) i) (peek shows_embedded us (lone_by n (type_at n) i us) (sole_by n (type_at n) i us)) e

-- a field with one name, before a bracket or not
sole_again : (n m : ℕ) (i : Ident) (us : List Symbol) (x : FieldExpr) (rest : List Symbol) (b : Bool) → starts is_open_bracket us ≡ b → Agrees n m (sized n m x) rest (only_by (type_at n) i us) → Agrees n m (sized n m x) rest (sole_by n (type_at n) i us)
sole_again n m i us x rest true e h = rw e (first_counts n m (sized n m x) rest (only_by (type_at n) i us) (lone_by n (type_at n) i us) h)
sole_again n m i us x rest false e h = rw e h

pub shared_again : (n m : ℕ) (i : Ident) (names : List Ident) (ts us : List Symbol) (ty : TypeExpr) (vs : List Symbol) (tag : List ℕ) (rest : List Symbol) → IsNames ts (i ∷ names) us → starts begins_type us ≡ true
    → Agrees n m (sized n m ty) vs (type_at n us) → IsTag vs tag rest → starts ends_field rest ≡ true → Agrees n m (sized n m (field (i ∷ names) ty tag i.start)) rest (field_by n (type_at n) ts)
shared_again n m i names ts us ty vs tag rest (one j r) b h w e =
    rw (first_opens n i us (no_comma us b), no_embedded us b)
    (sole_again n m i us (field (i ∷ []) ty tag i.start) rest (starts is_open_bracket us) refl (typed_again n m (i ∷ []) i.start us ty vs tag rest h w e))
shared_again n m i names ts us ty vs tag rest (more j c ws ns r q) b h w e =
    rw (names_again ws names us q (no_comma us b))
    (typed_again n m (i ∷ names) i.start us ty vs tag rest h w e)

-- a name that turns out to be a type
pub lone_again : (n m : ℕ) (i : Ident) (ws : List Symbol) (ty : TypeExpr) (us : List Symbol) (tag : List ℕ) (rest : List Symbol) → 1 ≤ m → Agrees n m (sized n m ty) us (type_at n (t.Ident i ∷ ws)) → IsTag us tag rest → starts ends_field rest ≡ true
    → Agrees n m (sized n m (field [] ty tag i.start)) rest (lone_by n (type_at n) i ws)
lone_again zero m i ws ty us tag rest p h w e = p
lone_again (suc n) m i ws ty us tag rest p h w e =
    agrees_bind (suc n) m (sized (suc n) m ty) us (suc n) m (sized (suc n) m (field [] ty tag i.start)) rest (type_at (suc n) (t.Ident i ∷ ws)) (λ z vs. tagged [] z i.start vs) h (λ d. d)
    (λ f. tagged_again (suc n) m (suc n - m) [] ty i.start us tag rest w e f)

-- where the next token shows it
pub shown_again : (n m : ℕ) (i : Ident) (ws : List Symbol) (ty : TypeExpr) (us : List Symbol) (tag : List ℕ) (rest : List Symbol) → 1 ≤ m → starts is_comma ws ≡ false → starts shows_embedded ws ≡ true → Agrees n m (sized n m ty) us (type_at n (t.Ident i ∷ ws))
    → IsTag us tag rest → starts ends_field rest ≡ true → Agrees n m (sized n m (field [] ty tag i.start)) rest (field_by n (type_at n) (t.Ident i ∷ ws))
shown_again n m i ws ty us tag rest p c s h w e = rw (first_opens n i ws c, s) (lone_again n m i ws ty us tag rest p h w e)

-- before a bracket, where the reading as an array loses
pub bracket_again : (n m : ℕ) (i : Ident) (o : ℕ) (ws : List Symbol) (ty : TypeExpr) (us : List Symbol) (tag : List ℕ) (rest : List Symbol) → 1 ≤ m → Agrees n m (sized n m ty) us (type_at n (t.Ident i ∷ t.OpenBracket o ∷ ws)) → IsTag us tag rest → starts ends_field rest ≡ true
    → Loses (only_by (type_at n) i (t.OpenBracket o ∷ ws)) (lone_by n (type_at n) i (t.OpenBracket o ∷ ws)) → Agrees n m (sized n m (field [] ty tag i.start)) rest (field_by n (type_at n) (t.Ident i ∷ t.OpenBracket o ∷ ws))
bracket_again n m i o ws ty us tag rest p h w e l =
    second_counts n m (sized n m (field [] ty tag i.start)) rest (only_by (type_at n) i (t.OpenBracket o ∷ ws)) (lone_by n (type_at n) i (t.OpenBracket o ∷ ws)) l (lone_again n m i (t.OpenBracket o ∷ ws) ty us tag rest p h w e)

pub star_again : (n m at : ℕ) (i : Ident) (ws : List Symbol) (ty : TypeExpr) (us : List Symbol) (tag : List ℕ) (rest : List Symbol) → Agrees n m (sized n m (y.Pointer ty at)) us (type_at n (t.Star at ∷ t.Ident i ∷ ws)) → 1 ≤ m → IsTag us tag rest → starts ends_field rest ≡ true
    → Agrees n m (sized n m (field [] (y.Pointer ty at) tag at)) rest (field_by n (type_at n) (t.Star at ∷ t.Ident i ∷ ws))
star_again zero m at i ws ty us tag rest h p w e = p
star_again (suc n) m at i ws ty us tag rest h p w e =
    agrees_bind (suc n) m (sized (suc n) m (y.Pointer ty at)) us (suc n) m (sized (suc n) m (field [] (y.Pointer ty at) tag at)) rest (type_at (suc n) (t.Star at ∷ t.Ident i ∷ ws)) (λ z vs. tagged [] z at vs) h (λ d. d)
    (λ f. tagged_again (suc n) m (suc n - m) [] (y.Pointer ty at) at us tag rest w e f)

-- an embedded type, where it is read again
pub embedded_again : (n m : ℕ) (ts : List Symbol) (ty : TypeExpr) (us : List Symbol) (tag : List ℕ) (rest : List Symbol) → IsNamed m ts ty us → Agrees n m (sized n m ty) us (type_at n ts) → IsTag us tag rest → starts ends_field rest ≡ true
    → ((i : Ident) (o : ℕ) (ws : List Symbol) → ts ≡ t.Ident i ∷ t.OpenBracket o ∷ ws → Loses (only_by (type_at n) i (t.OpenBracket o ∷ ws)) (lone_by n (type_at n) i (t.OpenBracket o ∷ ws)))
    → Agrees n m (sized n m (field [] ty tag (start_of ts))) rest (field_by n (type_at n) ts)
embedded_again n m ts ty us tag rest (g.by_name k ps x ws args r (own i q) (g.no_args r')) h w e l = shown_again n (suc k) i us ty us tag rest (omega arith) (tag_no_comma us tag rest w e) (tag_embedded us tag rest w e) h w e
embedded_again n m ts ty us tag rest (g.by_name k ps x ws args r (own i q) (g.some_args j o vs xs r' d b)) h w e l = bracket_again n (suc k) i o vs ty us tag rest (omega arith) h w e (l i o vs refl)
embedded_again n m ts ty us tag rest (g.by_name k ps x ws args r (of_package p d i q) a) h w e l = shown_again n (suc k) p (t.Dot d ∷ t.Ident i ∷ ws) ty us tag rest (omega arith) refl refl h w e

pub pointer_again : (n m at : ℕ) (ts : List Symbol) (ty : TypeExpr) (us : List Symbol) (tag : List ℕ) (rest : List Symbol) → IsNamed m ts ty us → Agrees n (suc m) (sized n (suc m) (y.Pointer ty at)) us (type_at n (t.Star at ∷ ts)) → IsTag us tag rest → starts ends_field rest ≡ true
    → Agrees n (suc m) (sized n (suc m) (field [] (y.Pointer ty at) tag at)) rest (field_by n (type_at n) (t.Star at ∷ ts))
pointer_again n m at ts ty us tag rest (g.by_name k ps x ws args r (own i q) a) h w e = star_again n (suc (suc k)) at i ws ty us tag rest h (omega arith) w e
pointer_again n m at ts ty us tag rest (g.by_name k ps x ws args r (of_package p d i q) a) h w e = star_again n (suc (suc k)) at p (t.Dot d ∷ t.Ident i ∷ ws) ty us tag rest h (omega arith) w e
