-- What the readers of fields do.
use Rattle.std.proofs.Common.{◌≡◌, ℕ, zero, suc, max, Bool, true, List, [], ◌∷◌, refl, sym, subst, ◌∙◌}
use Rattle.go_expr_syntax.specs.declared.symbols.Symbol.{Symbol}
use Rattle.go_lexer.specs.declared.token_kinds.Token.{Token}
use Rattle.go_expr_syntax.specs.declared.symbols.Symbol.TheVariants as t
use Rattle.go_expr_syntax.specs.declared.symbols.Ident.{Ident}
use Rattle.go_type_syntax.specs.declared.tree.FieldExpr.{FieldExpr}
use Rattle.go_type_syntax.specs.declared.tree.TypeExpr.{TypeExpr}
use Rattle.go_type_syntax.specs.declared.tree.TypeExpr.TheVariants as y
use Rattle.go_expr_syntax.specs.Reading.{Reply, ◌>>=◌, unexpected, peek, starts, is_comma, is_ident, is_open_bracket, is_semicolon, is_close_brace, Fit, fits}
use Rattle.go_expr_syntax.specs.Names.{plain, selected, IsNames, one, more, IsTag, none, some, tag_at, names_at}
use Rattle.go_type_syntax.specs.Grammar as g
use Rattle.go_type_syntax.specs.Grammar.{instance, named, field, IsType, IsNamed, IsFields}
use Rattle.go_type_syntax.specs.Types.{tagged, shared_by, embedded_by, star_by, star_at, lone_by, only_by, array_or_instance, sole_by, more_names, first_by, field_by, fields_at}
use Rattle.go_expr_syntax.specs.Reading.{shows_embedded}
use Rattle.go_expr_syntax.proofs.Viable.{ReadsOn, ReadsAt, Sample, ended_on, deep_on, cons_on, peek_on, choose_on, Behind, Past, After, refuse_next, refuse_end, deep_next, as_reads, like_reads, cons_reads, peek_reads, stuck_reads, bind_reads, value_reads, only_reads, starts_same}
use Rattle.go_expr_syntax.proofs.EitherReads.{either_on}
use Rattle.go_expr_syntax.proofs.Marks.{comma, semicolon, close_brace}
use Rattle.go_expr_syntax.proofs.NameReads.{any_ident, tag_of, tag_reads, names_reads, through_value}
use Rattle.go_expr_syntax.proofs.Rows.{IsSeries, series_on}
use Rattle.go_type_syntax.proofs.Standing.{no_literal_of, Begun, dotted_stands, applied_stands, plain_stands, name_stands, no_type_of, TypeAt, NamedAt, FieldAt, FieldsAt, some_field, no_field}

-- after the names
shared_reads : (inner : List Symbol → Reply (Fit TypeExpr)) → ((us : List Symbol) → ReadsAt TypeAt inner us (inner us)) → (i : Ident) (names : List Ident) (ts : List Symbol)
    → ReadsAt (After IsNames FieldAt (i ∷ names)) (shared_by inner (i ∷ names) i.start) ts (shared_by inner (i ∷ names) i.start ts)
shared_reads inner h i names ts =
    bind_reads TypeAt (After IsNames FieldAt (i ∷ names)) inner (λ ty vs. tagged (i ∷ names) ty i.start vs) ts
    (λ ty. record { tokens = []; made = (field (i ∷ names) ty.0 [] i.start, ty.1); stands = λ tail us w vs v. (w.0, g.shared w.0 i names vs us ty.0 tail [] tail v w.1 (none tail)) })
    (λ ty vs o. value_reads IsTag (After TypeAt (After IsNames FieldAt (i ∷ names)) ty) tag_at (λ tag. (field (i ∷ names) ty.0 tag i.start, ty.1)) vs
    (λ ws tag rest q us w us' v. (w.0, g.shared w.0 i names us' us ty.0 ws tag rest v w.1 q)) (tag_at vs) (tag_reads vs))
    (inner ts) (h ts)

-- with the names read apart
abbrev flat_names : (List Symbol → Reply (Fit TypeExpr)) → Ident → List Symbol → Reply (Fit FieldExpr)
flat_names inner i ts = names_at ts >>= λ names. shared_by inner (i ∷ names.0) i.start names.1

more_is : (inner : List Symbol → Reply (Fit TypeExpr)) (i : Ident) (ts : List Symbol) → more_names inner i ts ≡ flat_names inner i ts
more_is inner i ts = through_value (names_at ts) (λ (names : List Ident). i ∷ names) (λ names us. shared_by inner names i.start us)

flat_reads : (inner : List Symbol → Reply (Fit TypeExpr)) → ((us : List Symbol) → ReadsAt TypeAt inner us (inner us)) → (i : Ident) (ts : List Symbol)
    → ReadsAt (Past comma (Behind (t.Ident i) FieldAt)) (flat_names inner i) ts (flat_names inner i ts)
flat_reads inner h i ts =
    bind_reads IsNames (Past comma (Behind (t.Ident i) FieldAt)) names_at (λ names us. shared_by inner (i ∷ names) i.start us) ts
    (λ names. record {
      tokens = t.Ident any_ident ∷ [];
      made = (field (i ∷ names) (named (plain any_ident)) [] i.start, 0);
      stands = λ tail us w c. (
        1,
        g.shared 1 i names (t.Ident i ∷ t.Comma c ∷ us) (t.Ident any_ident ∷ tail) (named (plain any_ident)) tail [] tail
            (more i c us names (t.Ident any_ident ∷ tail) w) (name_stands any_ident tail) (none tail),
      );
    })
    (λ names us o. as_reads (After IsNames FieldAt (i ∷ names)) (After IsNames (Past comma (Behind (t.Ident i) FieldAt)) names) (shared_by inner (i ∷ names) i.start) us (shared_by inner (i ∷ names) i.start us)
    (λ vs f rest q vs' w c. q (t.Ident i ∷ t.Comma c ∷ vs') (more i c vs' names vs w)) (shared_reads inner h i names us))
    (names_at ts) (names_reads ts)

more_reads : (inner : List Symbol → Reply (Fit TypeExpr)) → ((us : List Symbol) → ReadsAt TypeAt inner us (inner us)) → (i : Ident) (ts : List Symbol)
    → ReadsAt (Past comma (Behind (t.Ident i) FieldAt)) (more_names inner i) ts (more_names inner i ts)
more_reads inner h i ts =
    like_reads (Past comma (Behind (t.Ident i) FieldAt)) (more_names inner i) (flat_names inner i) ts (more_names inner i ts) (λ r e. more_is inner i r)
    (subst (ReadsAt (Past comma (Behind (t.Ident i) FieldAt)) (flat_names inner i) ts) (sym (more_is inner i ts)) (flat_reads inner h i ts))

-- the last field of a struct, and the brace that closes it
abbrev pub ClosedField : List Symbol → Fit FieldExpr → List Symbol → Type 0
ClosedField us x rest = (m : ℕ) × IsFields m us (x.0 ∷ []) rest

closes_field : (us : List Symbol) (x : Fit FieldExpr) (rest : List Symbol) → FieldAt us x (t.CloseBrace 0 ∷ rest) → ClosedField us x rest
closes_field us x rest w = (w.0, g.last w.0 0 us x.0 rest w.1)

closed_reads : (p : List Symbol → Reply (Fit FieldExpr)) (ts : List Symbol) → ReadsAt FieldAt p ts (p ts) → ReadsOn FieldAt ClosedField p ts (p ts)
closed_reads p ts h = ended_on FieldAt ClosedField (t.CloseBrace 0 ∷ []) p ts (p ts) closes_field h

-- after the first identifier
behind_reads : (i : Ident) (p : List Symbol → Reply (Fit FieldExpr)) (ts : List Symbol) → ReadsAt (Behind (t.Ident i) FieldAt) p ts (p ts) → ReadsOn (Behind (t.Ident i) FieldAt) (Behind (t.Ident i) ClosedField) p ts (p ts)
behind_reads i p ts h = ended_on (Behind (t.Ident i) FieldAt) (Behind (t.Ident i) ClosedField) (t.CloseBrace 0 ∷ []) p ts (p ts) (λ us x r w. closes_field (t.Ident i ∷ us) x r w) h

-- an embedded type, and the brace
embeds : (m : ℕ) (i : Ident) (us : List Symbol) (ty : TypeExpr) (tail : List Symbol) → IsNamed m (t.Ident i ∷ us) ty (t.CloseBrace 0 ∷ tail) → ClosedField (t.Ident i ∷ us) (field [] ty [] i.start, 0) tail
embeds m i us ty tail w = (m, g.last m 0 (t.Ident i ∷ us) (field [] ty [] i.start) tail (g.embedded m (t.Ident i ∷ us) ty (t.CloseBrace 0 ∷ tail) [] (t.CloseBrace 0 ∷ tail) w (none (t.CloseBrace 0 ∷ tail))))

-- what may follow a token that shows an embedded type
shown_by : (i : Ident) (k : Symbol) → shows_embedded k ≡ true → Sample (Behind k (Behind (t.Ident i) ClosedField))
shown_by i (t.Dot d) e = record {
  tokens = t.Ident any_ident ∷ t.CloseBrace 0 ∷ [];
  made = (field [] (named (selected i any_ident)) [] i.start, 0);
  stands = λ tail. embeds 1 i (t.Dot d ∷ t.Ident any_ident ∷ t.CloseBrace 0 ∷ tail) (named (selected i any_ident)) tail (dotted_stands i d (t.CloseBrace 0 ∷ tail));
}
shown_by i (t.Semicolon s) e = record {
  tokens = t.CloseBrace 0 ∷ [];
  made = (field [] (named (plain i)) [] i.start, 0);
  stands = λ tail. (
    max 1 0,
    g.more 1 0 s (t.Ident i ∷ t.Semicolon s ∷ t.CloseBrace 0 ∷ tail) (t.CloseBrace 0 ∷ tail) (field [] (named (plain i)) [] i.start) [] tail
        (g.embedded 1 (t.Ident i ∷ t.Semicolon s ∷ t.CloseBrace 0 ∷ tail) (named (plain i)) (t.Semicolon s ∷ t.CloseBrace 0 ∷ tail) [] (t.Semicolon s ∷ t.CloseBrace 0 ∷ tail) (plain_stands i (t.Semicolon s ∷ t.CloseBrace 0 ∷ tail)) (none (t.Semicolon s ∷ t.CloseBrace 0 ∷ tail)))
        (g.none 0 tail),
  );
}
shown_by i (t.CloseBrace c) e = record {
  tokens = [];
  made = (field [] (named (plain i)) [] i.start, 0);
  stands = λ tail. (1, g.last 1 c (t.Ident i ∷ t.CloseBrace c ∷ tail) (field [] (named (plain i)) [] i.start) tail (g.embedded 1 (t.Ident i ∷ t.CloseBrace c ∷ tail) (named (plain i)) (t.CloseBrace c ∷ tail) [] (t.CloseBrace c ∷ tail) (plain_stands i (t.CloseBrace c ∷ tail)) (none (t.CloseBrace c ∷ tail))));
}
shown_by i (t.Text s) e = record {
  tokens = t.CloseBrace 0 ∷ [];
  made = (field [] (named (plain i)) (tag_of s) i.start, 0);
  stands = λ tail. (1, g.last 1 0 (t.Ident i ∷ t.Text s ∷ t.CloseBrace 0 ∷ tail) (field [] (named (plain i)) (tag_of s) i.start) tail (g.embedded 1 (t.Ident i ∷ t.Text s ∷ t.CloseBrace 0 ∷ tail) (named (plain i)) (t.Text s ∷ t.CloseBrace 0 ∷ tail) (tag_of s) (t.CloseBrace 0 ∷ tail) (plain_stands i (t.Text s ∷ t.CloseBrace 0 ∷ tail)) (some s (t.CloseBrace 0 ∷ tail))));
}
shown_by i _ e = absurd cc

applied_by : (i : Ident) (k : Symbol) → is_open_bracket k ≡ true → Sample (Behind k (Behind (t.Ident i) ClosedField))
applied_by i (t.OpenBracket o) e = record {
  tokens = t.Ident any_ident ∷ t.CloseBracket 0 ∷ t.CloseBrace 0 ∷ [];
  made = (field [] (instance (plain i) (named (plain any_ident) ∷ [])) [] i.start, 0);
  stands = λ tail. embeds 2 i (t.OpenBracket o ∷ t.Ident any_ident ∷ t.CloseBracket 0 ∷ t.CloseBrace 0 ∷ tail) (instance (plain i) (named (plain any_ident) ∷ [])) tail (applied_stands i o (t.CloseBrace 0 ∷ tail));
}
applied_by i _ e = absurd cc

lone_reads : (n : ℕ) (inner : List Symbol → Reply (Fit TypeExpr)) → Begun n inner → (i : Ident) (is : Symbol → Bool) (ts : List Symbol) → starts is ts ≡ true → ((k : Symbol) → is k ≡ true → Sample (Behind k (Behind (t.Ident i) ClosedField)))
    → ReadsOn (Behind (t.Ident i) FieldAt) (Behind (t.Ident i) ClosedField) (lone_by n inner i) ts (lone_by n inner i ts)
lone_reads zero inner b i is ts e next =
    deep_on (Behind (t.Ident i) FieldAt) (Behind (t.Ident i) ClosedField) is ts
    (record { tokens = []; made = (field [] (named (plain i)) [] i.start, 0); stands = λ tail. (1, g.embedded 1 (t.Ident i ∷ tail) (named (plain i)) tail [] tail (plain_stands i tail) (none tail)) }) next e
lone_reads (suc n) inner b i is ts e next =
    behind_reads i (lone_by (suc n) inner i) ts
    (bind_reads (Behind (t.Ident i) NamedAt) (Behind (t.Ident i) FieldAt) (λ r. inner (t.Ident i ∷ r)) (λ ty us. tagged [] ty i.start us) ts
    (λ ty. record { tokens = []; made = (field [] ty.0 [] i.start, ty.1); stands = λ tail us w. (w.0, g.embedded w.0 (t.Ident i ∷ us) ty.0 tail [] tail w.1 (none tail)) })
    (λ ty us o. value_reads IsTag (After (Behind (t.Ident i) NamedAt) (Behind (t.Ident i) FieldAt) ty) tag_at (λ tag. (field [] ty.0 tag i.start, ty.1)) us
    (λ vs tag rest q us' w. (w.0, g.embedded w.0 (t.Ident i ∷ us') ty.0 vs tag rest w.1 q)) (tag_at us) (tag_reads us))
    (inner (t.Ident i ∷ ts)) (b.ident i ts (λ (e' : suc n ≡ 0). absurd cc)))

only_field : (inner : List Symbol → Reply (Fit TypeExpr)) → ((us : List Symbol) → ReadsAt TypeAt inner us (inner us)) → (i : Ident) (ts : List Symbol) → ReadsAt (Behind (t.Ident i) FieldAt) (only_by inner i) ts (only_by inner i ts)
only_field inner h i ts =
    as_reads (After IsNames FieldAt (i ∷ [])) (Behind (t.Ident i) FieldAt) (shared_by inner (i ∷ []) i.start) ts (shared_by inner (i ∷ []) i.start ts) (λ us f rest q. q (t.Ident i ∷ us) (one i us)) (shared_reads inner h i [] ts)

sole_reads : (n : ℕ) (inner : List Symbol → Reply (Fit TypeExpr)) → ((us : List Symbol) → ReadsAt TypeAt inner us (inner us)) → Begun n inner → (i : Ident) (ts : List Symbol)
    → ReadsOn (Behind (t.Ident i) FieldAt) (Behind (t.Ident i) ClosedField) (sole_by n inner i) ts (sole_by n inner i ts)
sole_reads n inner h b i ts =
    peek_on (Behind (t.Ident i) FieldAt) (Behind (t.Ident i) ClosedField) is_open_bracket (array_or_instance n inner i) (only_by inner i) ts
    (λ s. either_on (Behind (t.Ident i) FieldAt) (Behind (t.Ident i) ClosedField) (only_by inner i) (lone_by n inner i) ts (behind_reads i (only_by inner i) ts (only_field inner h i ts))
    (λ us e. lone_reads n inner b i is_open_bracket us (sym (starts_same is_open_bracket ts us e) ∙ s) (applied_by i)))
    (λ s. behind_reads i (only_by inner i) ts (only_field inner h i ts))

first_reads : (n : ℕ) (inner : List Symbol → Reply (Fit TypeExpr)) → ((us : List Symbol) → ReadsAt TypeAt inner us (inner us)) → Begun n inner → (i : Ident) (ts : List Symbol)
    → ReadsOn (Behind (t.Ident i) FieldAt) (Behind (t.Ident i) ClosedField) (first_by n inner i) ts (first_by n inner i ts)
first_reads n inner h b i ts =
    choose_on is_comma (Behind (t.Ident i) FieldAt) (Behind (t.Ident i) ClosedField) comma (more_names inner i) (λ us. peek shows_embedded us (lone_by n inner i us) (sole_by n inner i us)) ts
    (λ us. ended_on (Past comma (Behind (t.Ident i) FieldAt)) (Past comma (Behind (t.Ident i) ClosedField)) (t.CloseBrace 0 ∷ []) (more_names inner i) us (more_names inner i us)
    (λ vs x r w c. closes_field (t.Ident i ∷ t.Comma c ∷ vs) x r (w c)) (more_reads inner h i us))
    (λ e. peek_on (Behind (t.Ident i) FieldAt) (Behind (t.Ident i) ClosedField) shows_embedded (lone_by n inner i) (sole_by n inner i) ts (λ s. lone_reads n inner b i shows_embedded ts s (shown_by i)) (λ s. sole_reads n inner h b i ts))

-- ---- embedded pointers

-- a pointer to a type that begins with an identifier, after its star
abbrev StarAt : ℕ → List Symbol → Fit TypeExpr → List Symbol → Type 0
StarAt at ts x rest = (m : ℕ) × (ty : TypeExpr) × (x.0 ≡ y.Pointer ty at) × IsNamed m ts ty rest

named_of : (m : ℕ) (i : Ident) (ts : List Symbol) (ty : TypeExpr) (rest : List Symbol) → IsType m (t.Ident i ∷ ts) ty rest → IsNamed m (t.Ident i ∷ ts) ty rest
named_of m i ts ty rest (g.name n us z r w) = w

ident_first : (k : Symbol) (m : ℕ) (ts : List Symbol) (ty : TypeExpr) (rest : List Symbol) → is_ident k ≡ true → IsType m (k ∷ ts) ty rest → IsNamed m (k ∷ ts) ty rest
ident_first (t.Ident i) m ts ty rest e w = named_of m i ts ty rest w
ident_first _ m ts ty rest e w = absurd cc

pointer_of : (m at : ℕ) (k : Symbol) (ts : List Symbol) (x : TypeExpr) (rest : List Symbol) → is_ident k ≡ true → IsType m (t.Star at ∷ k ∷ ts) x rest → (n : ℕ) × (ty : TypeExpr) × (x ≡ y.Pointer ty at) × IsNamed n (k ∷ ts) ty rest
pointer_of m at k ts x rest e (g.name n us z r (g.by_name j vs a ws args r' b c)) = elim b [ ]
pointer_of m at k ts x rest e (g.pointer n at' us ty r w) = (n, ty, refl, ident_first k n ts ty rest e w)

no_pointer : (m at : ℕ) (x : TypeExpr) (rest : List Symbol) → IsType m (t.Star at ∷ []) x rest → ⊥
no_pointer m at x rest (g.name n us z r (g.by_name j vs a ws args r' b c)) = elim b [ ]
no_pointer m at x rest (g.pointer n at' us ty r w) = no_type_of n ty rest w

no_literal_pointer : (m at : ℕ) (token : Token) (us : List Symbol) (x : TypeExpr) (rest : List Symbol) → IsType m (t.Star at ∷ t.Literal token ∷ us) x rest → ⊥
no_literal_pointer m at token us x rest (g.name n vs z r (g.by_name j ws a xs args r' b c)) = elim b [ ]
no_literal_pointer m at token us x rest (g.pointer n at' vs ty r w) = no_literal_of n token us ty r w

pointed_reads : (n : ℕ) (inner : List Symbol → Reply (Fit TypeExpr)) → Begun n inner → (n ≡ 0 → ⊥) → (at : ℕ) (ts : List Symbol) → starts is_ident ts ≡ true → ReadsAt (StarAt at) (λ r. inner (t.Star at ∷ r)) ts (inner (t.Star at ∷ ts))
pointed_reads n inner b z at ts e =
    only_reads (Behind (t.Star at) TypeAt) (StarAt at) (λ r. inner (t.Star at ∷ r)) ts
    (λ k us x rest a w. pointer_of w.0 at k us x.0 rest (sym (starts_same is_ident ts (k ∷ []) a) ∙ e) w.1)
    (λ x us w. no_pointer w.0 at x.0 us w.1)
    (λ token us x rest w. no_literal_pointer w.0 at token us x.0 rest w.1)
    (record { tokens = t.Ident any_ident ∷ []; made = (y.Pointer (named (plain any_ident)) at, 0); stands = λ tail. (1, named (plain any_ident), refl, plain_stands any_ident tail) })
    (inner (t.Star at ∷ ts)) (b.star at ts z)

tagged_star : (n : ℕ) (inner : List Symbol → Reply (Fit TypeExpr)) → Begun n inner → (n ≡ 0 → ⊥) → (at : ℕ) (ts : List Symbol) → starts is_ident ts ≡ true → ReadsAt (Behind (t.Star at) FieldAt) (embedded_by inner (t.Star at)) ts (embedded_by inner (t.Star at) ts)
tagged_star n inner b z at ts e =
    bind_reads (StarAt at) (Behind (t.Star at) FieldAt) (λ r. inner (t.Star at ∷ r)) (λ ty us. tagged [] ty at us) ts
    (λ ty. record { tokens = []; made = (field [] ty.0 [] at, ty.1); stands = λ tail us w. rw w.2 (suc w.0, g.embedded_pointer w.0 at us w.1 tail [] tail w.3 (none tail)) })
    (λ ty us o. value_reads IsTag (After (StarAt at) (Behind (t.Star at) FieldAt) ty) tag_at (λ tag. (field [] ty.0 tag at, ty.1)) us
    (λ vs tag rest q us' w. rw w.2 (suc w.0, g.embedded_pointer w.0 at us' w.1 vs tag rest w.3 q)) (tag_at us) (tag_reads us))
    (inner (t.Star at ∷ ts)) (pointed_reads n inner b z at ts e)

star_reads : (n : ℕ) (inner : List Symbol → Reply (Fit TypeExpr)) → Begun n inner → (n ≡ 0 → ⊥) → (at : ℕ) (ts : List Symbol) → ReadsAt (Behind (t.Star at) FieldAt) (star_by inner at) ts (star_by inner at ts)
star_reads n inner b z at ts =
    peek_reads (Behind (t.Star at) FieldAt) is_ident (embedded_by inner (t.Star at)) unexpected ts
    (λ s. tagged_star n inner b z at ts s)
    (λ s. stuck_reads (Behind (t.Star at) FieldAt) ts (record {
      tokens = t.Ident any_ident ∷ [];
      made = (field [] (y.Pointer (named (plain any_ident)) at) [] at, 0);
      stands = λ tail. (2, g.embedded_pointer 1 at (t.Ident any_ident ∷ tail) (named (plain any_ident)) tail [] tail (plain_stands any_ident tail) (none tail));
    }))

star_field_reads : (n : ℕ) (inner : List Symbol → Reply (Fit TypeExpr)) → Begun n inner → (at : ℕ) (ts : List Symbol) → ReadsAt FieldAt (field_by n inner) (t.Star at ∷ ts) (star_at n inner at ts)
star_field_reads zero inner b at ts =
    deep_next FieldAt (field_by zero inner) (t.Star at) ts
    (record {
      tokens = t.Ident any_ident ∷ [];
      made = (field [] (y.Pointer (named (plain any_ident)) at) [] at, 0);
      stands = λ tail. (2, g.embedded_pointer 1 at (t.Ident any_ident ∷ tail) (named (plain any_ident)) tail [] tail (plain_stands any_ident tail) (none tail));
    })
    (λ r. refl)
star_field_reads (suc n) inner b at ts = cons_reads FieldAt (field_by (suc n) inner) (star_by inner at) (t.Star at) ts (star_by inner at ts) (λ r. refl) (star_reads (suc n) inner b (λ (e : suc n ≡ 0). absurd cc) at ts)

pub field_reads : (n : ℕ) (inner : List Symbol → Reply (Fit TypeExpr)) → ((us : List Symbol) → ReadsAt TypeAt inner us (inner us)) → Begun n inner → (ts : List Symbol) → ReadsOn FieldAt ClosedField (field_by n inner) ts (field_by n inner ts)
field_reads n inner h b [] = closed_reads (field_by n inner) [] (refuse_end FieldAt (field_by n inner) some_field refl)
field_reads n inner h b (t.Star at ∷ ts) = closed_reads (field_by n inner) (t.Star at ∷ ts) (star_field_reads n inner b at ts)
field_reads n inner h b (t.Ident i ∷ ts) = cons_on FieldAt ClosedField (field_by n inner) (first_by n inner i) (t.Ident i) ts (first_by n inner i ts) (λ r. refl) (first_reads n inner h b i ts)
field_reads n inner h b (k ∷ ts) = closed_reads (field_by n inner) (k ∷ ts) (refuse_next FieldAt (field_by n inner) k ts some_field (λ r. refl))

field_row : (n : ℕ) → IsSeries (fits n is_semicolon is_close_brace) FieldAt FieldsAt
field_row n = record {
  between = semicolon;
  ending = close_brace;
  none = λ c rest. (0, g.none c rest);
  last = λ c ts x rest w. (w.0, g.last w.0 c ts x.0 rest w.1);
  more = λ s ts us x xs rest e w v. (max w.0 v.0, g.more w.0 v.0 s ts us x.0 xs.0 rest w.1 v.1);
  final = λ s c ts x rest e w. absurd cc;
}

pub fields_read : (n : ℕ) (inner : List Symbol → Reply (Fit TypeExpr)) → ((us : List Symbol) → ReadsAt TypeAt inner us (inner us)) → Begun n inner → (ts : List Symbol) → ReadsAt FieldsAt (fields_at n inner) ts (fields_at n inner ts)
fields_read n inner h b ts = series_on (fits n is_semicolon is_close_brace) FieldAt FieldsAt (field_row n) (field_by n inner) (λ x us w. no_field w.0 x.0 us w.1) (field_reads n inner h b) ts
