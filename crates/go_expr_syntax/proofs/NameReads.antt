-- What the readers of names and tags do.
use Rattle.std.proofs.Common.{◌≡◌, ℕ, List, [], ◌∷◌, Ok, Err, refl}
use Rattle.go_expr_syntax.specs.declared.symbols.Symbol.{Symbol}
use Rattle.go_expr_syntax.specs.declared.symbols.Symbol.TheVariants as t
use Rattle.go_expr_syntax.specs.declared.symbols.Ident.{Ident}
use Rattle.go_expr_syntax.specs.declared.tree.NameExpr.{NameExpr}
use Rattle.go_expr_syntax.specs.Reading.{Quoted, Reply, ◌>>=◌, is_dot}
use Rattle.string_literals.specs.Values.{value_of}
use Rattle.go_expr_syntax.specs.Names.{plain, selected, IsTypeName, own, of_package, IsNames, one, more, IsTag, none, some, ident_at, tag_at, selected_by, dotted, names_more, names_end, names_at}
use Rattle.go_expr_syntax.proofs.Viable.{ReadsAt, Sample, Behind, Past, done_reads, refuse_next, refuse_end, next_is, ends_so, cons_reads, choose_reads, value_reads}
use Rattle.go_expr_syntax.proofs.Marks.{dot}

abbrev pub IsIdent : List Symbol → Ident → List Symbol → Type 0
IsIdent ts i rest = ts ≡ t.Ident i ∷ rest

-- the value of a literal
abbrev pub tag_of : Quoted → List ℕ
tag_of s = value_of s.1

abbrev pub any_ident : Ident
any_ident = record { start = 0; end = 0 }

pub some_ident : Sample IsIdent
some_ident = record { tokens = t.Ident any_ident ∷ []; made = any_ident; stands = λ tail. refl }

pub ident_reads : (ts : List Symbol) → ReadsAt IsIdent ident_at ts (ident_at ts)
ident_reads [] = refuse_end IsIdent ident_at some_ident refl
ident_reads (t.Ident i ∷ ts) =
    cons_reads IsIdent ident_at (λ r. Ok (i, r)) (t.Ident i) ts (Ok (i, ts)) (λ r. refl)
    (done_reads (Behind (t.Ident i) IsIdent) (λ r. Ok (i, r)) ts i (λ tail. refl) (λ r e. refl))
ident_reads (k ∷ ts) = refuse_next IsIdent ident_at k ts some_ident (λ r. refl)

pub tag_reads : (ts : List Symbol) → ReadsAt IsTag tag_at ts (tag_at ts)
tag_reads [] = done_reads IsTag tag_at [] [] (λ tail. none tail) (ends_so (λ r. tag_at r ≡ Ok ([], r)) refl)
tag_reads (t.Text s ∷ ts) =
    cons_reads IsTag tag_at (λ r. Ok (value_of s.1, r)) (t.Text s) ts (Ok (value_of s.1, ts)) (λ r. refl)
    (done_reads (Behind (t.Text s) IsTag) (λ r. Ok (value_of s.1, r)) ts (value_of s.1) (λ tail. some s tail) (λ r e. refl))
tag_reads (k ∷ ts) = done_reads IsTag tag_at (k ∷ ts) [] (λ tail. none tail) (next_is (λ r. tag_at r ≡ Ok ([], r)) k (λ r. refl))

pub dotted_reads : (i : Ident) (ts : List Symbol) → ReadsAt (Behind (t.Ident i) IsTypeName) (dotted i) ts (dotted i ts)
dotted_reads i ts =
    choose_reads is_dot (Behind (t.Ident i) IsTypeName) dot (selected_by i) (λ us. Ok (plain i, us)) ts
    (λ us. value_reads IsIdent (Past dot (Behind (t.Ident i) IsTypeName)) ident_at (λ j. selected i j) us (λ vs j rest w d. rw w (of_package i d j rest)) (ident_at us) (ident_reads us))
    (λ e. done_reads (Behind (t.Ident i) IsTypeName) (λ us. Ok (plain i, us)) ts (plain i) (λ tail. own i tail) (λ r e. refl))

-- ---- lists of names

pub after_ident : (i : Ident) (r : List Symbol) → names_at (t.Ident i ∷ r) ≡ names_end names_at i r
after_ident i [] = refl
after_ident i (t.Comma c ∷ r) = refl
after_ident i (k ∷ r) = refl

some_names : Sample IsNames
some_names = record { tokens = t.Ident any_ident ∷ []; made = any_ident ∷ []; stands = λ tail. one any_ident tail }

pub names_reads : (ts : List Symbol) → ReadsAt IsNames names_at ts (names_at ts)
names_reads [] = refuse_end IsNames names_at some_names refl
names_reads (t.Ident i ∷ []) =
    cons_reads IsNames names_at (names_end names_at i) (t.Ident i) [] (Ok (i ∷ [], [])) (after_ident i)
    (done_reads (Behind (t.Ident i) IsNames) (names_end names_at i) [] (i ∷ []) (λ tail. one i tail) (ends_so (λ r. names_end names_at i r ≡ Ok (i ∷ [], r)) refl))
names_reads (t.Ident i ∷ t.Comma c ∷ ts) =
    cons_reads IsNames names_at (names_end names_at i) (t.Ident i) (t.Comma c ∷ ts) (names_more names_at i ts) (after_ident i)
    (cons_reads (Behind (t.Ident i) IsNames) (names_end names_at i) (names_more names_at i) (t.Comma c) ts (names_more names_at i ts) (λ r. refl)
    (value_reads IsNames (Behind (t.Comma c) (Behind (t.Ident i) IsNames)) names_at (λ names. i ∷ names) ts (λ us names rest w. more i c us names rest w) (names_at ts) (names_reads ts)))
names_reads (t.Ident i ∷ k ∷ ts) =
    cons_reads IsNames names_at (names_end names_at i) (t.Ident i) (k ∷ ts) (Ok (i ∷ [], k ∷ ts)) (after_ident i)
    (done_reads (Behind (t.Ident i) IsNames) (names_end names_at i) (k ∷ ts) (i ∷ []) (λ tail. one i tail) (next_is (λ r. names_end names_at i r ≡ Ok (i ∷ [], r)) k (λ r. refl)))
names_reads (k ∷ ts) = refuse_next IsNames names_at k ts some_names (λ r. refl)

-- ---- a value made, and then used

abbrev pub valued : {A B : Type 0} → (A → B) → A × List Symbol → Reply B
valued v z = Ok (v z.0, z.1)

pub through_value : {A B C : Type 0} (r : Reply A) (v : A → B) (q : B → List Symbol → Reply C) → ((r >>= valued v) >>= λ z. q z.0 z.1) ≡ (r >>= λ z. q (v z.0) z.1)
through_value (Ok z) v q = refl
through_value (Err f) v q = refl

-- ---- none of them stands of no tokens

pub no_type_name : (x : NameExpr) (us : List Symbol) → IsTypeName [] x us → ⊥
no_type_name x us h = elim h [ ]

pub no_names : (names : List Ident) (us : List Symbol) → IsNames [] names us → ⊥
no_names names us h = elim h [ ]
