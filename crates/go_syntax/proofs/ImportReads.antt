-- What the readers of imports do, where a dot goes on to an import of all the names of a package.
use Rattle.std.proofs.Common.{◌≡◌, ℕ, max, ◌<◌, ◌≤◌, List, [], ◌∷◌, ◌++◌, length, Some, None, Ok, refl, sym, subst, append_assoc, arith}
use Rattle.go_lexer.specs.declared.token_kinds.TokenKind.TheVariants as kind
use Rattle.go_expr_syntax.specs.declared.symbols.Symbol.{Symbol}
use Rattle.go_expr_syntax.specs.declared.symbols.Symbol.TheVariants as t
use Rattle.go_expr_syntax.specs.declared.faults.Fault.{Fault}
use Rattle.go_expr_syntax.specs.declared.faults.Fault.TheVariants.{Unexpected, Deep, DotImport, Call}
use Rattle.go_syntax.specs.declared.tree.Import.{Import}
use Rattle.go_expr_syntax.specs.Reading.{Quoted, Reply, ◌>>=◌, past, is_semicolon, is_close_paren, is_open_paren, is_import, row, rows, series_end, series_next, series_item, series_by}
use Rattle.go_expr_syntax.specs.Calls.{Called}
use Rattle.go_syntax.specs.Decls as d
use Rattle.go_syntax.specs.Decls.{import, IsImport, IsAnyImport, IsBlock, IsGroup, IsImportsOf, IsImports}
use Rattle.go_syntax.specs.Files.{text_at, named_import, dot_import, import_at, single_at, group_at, decl_more, decl_end, decl_at, import_step, imports_at}
use Rattle.go_expr_syntax.proofs.Viable.{next_is, ReadsBy, ReadsAt, Sample, Behind, Past, After, going, turned, done_reads, refuse_by, refuse_next, refuse_next_by, refuse_end, refuse_end_by, as_by, cons_reads, cons_by, past_by, choose_by, choose_by_at, bind_front, value_by, eats}
use Rattle.go_expr_syntax.proofs.Marks.{semicolon, import_word, open_paren, close_paren}
use Rattle.go_expr_syntax.proofs.Rows.{Eats, eats_by, choose_same, series_local}
use Rattle.go_expr_syntax.proofs.Steps.{Local, steps_by}
use Rattle.go_syntax.proofs.Groups.{Any, no_longer, decl_same_by}

-- ---- what a fault goes on to: a dot to something of D

abbrev pub Wide : {X : Type 0} → (List Symbol → X → List Symbol → Type 0) → (List Symbol → X → List Symbol → Type 0) → Fault → List Symbol → X → List Symbol → Type 0
Wide F D (Unexpected k) us x rest = F us x rest
Wide F D (Deep k began) us x rest = F us x rest
Wide F D (DotImport k) us x rest = D us x rest
Wide F D (Call k at) us x rest = Called F at us x rest

pub wide_as : {A B : Type 0} (F D : List Symbol → A → List Symbol → Type 0) (G E : List Symbol → B → List Symbol → Type 0) (pre : List Symbol) (a : A) (b : B) (r s : List Symbol)
    → ((us : List Symbol) → F us a r → G (pre ++ us) b s) → ((us : List Symbol) → D us a r → E (pre ++ us) b s) → (f : Fault) (us : List Symbol) → Wide F D f us a r → Wide G E f (pre ++ us) b s
wide_as F D G E pre a b r s join also (Unexpected k) us h = join us h
wide_as F D G E pre a b r s join also (Deep k began) us h = join us h
wide_as F D G E pre a b r s join also (DotImport k) us h = also us h
wide_as F D G E pre a b r s join also (Call k at) us h = turned F G pre a b r s join (Call k at) us h

pub wide_of : {X : Type 0} (F D : List Symbol → X → List Symbol → Type 0) → ((us : List Symbol) (x : X) (r : List Symbol) → F us x r → D us x r) → (f : Fault) (us : List Symbol) (x : X) (r : List Symbol) → going F f us x r → Wide F D f us x r
wide_of F D wider (Unexpected k) us x r h = h
wide_of F D wider (Deep k began) us x r h = h
wide_of F D wider (DotImport k) us x r h = wider us x r h
wide_of F D wider (Call k at) us x r h = h

-- ---- one import

abbrev IsText : List Symbol → Quoted → List Symbol → Type 0
IsText ts s rest = ts ≡ t.Text s ∷ rest

abbrev any_text : Quoted
any_text = (record { kind = kind.Text; start = 0; end = 0 }, [])

some_text : Sample IsText
some_text = record { tokens = t.Text any_text ∷ []; made = any_text; stands = λ tail. refl }

text_reads : (ts : List Symbol) → ReadsAt IsText text_at ts (text_at ts)
text_reads [] = refuse_end IsText text_at some_text refl
text_reads (t.Text s ∷ ts) = cons_reads IsText text_at (λ r. Ok (s, r)) (t.Text s) ts (Ok (s, ts)) (λ r. refl) (done_reads (Behind (t.Text s) IsText) (λ r. Ok (s, r)) ts s (λ tail. refl) (λ r e. refl))
text_reads (k ∷ ts) = refuse_next IsText text_at k ts some_text (λ r. refl)

some_import : Sample (Any IsImport)
some_import = record { tokens = t.Text any_text ∷ []; made = import None any_text; stands = λ tail. (0, d.plainly any_text tail) }

import_wider : (us : List Symbol) (x : Import) (r : List Symbol) → Any IsImport us x r → Any IsAnyImport us x r
import_wider us x r w = (w.0, d.by_name w.0 us x r w.1)

abbrev ImportWide : Fault → List Symbol → Import → List Symbol → Type 0
ImportWide = Wide (Any IsImport) (Any IsAnyImport)

pub import_reads : (ts : List Symbol) → ReadsBy (Any IsImport) ImportWide import_at ts (import_at ts)
import_reads [] = refuse_end_by (Any IsImport) ImportWide import_at some_import refl
import_reads (t.Text s ∷ ts) =
    cons_by (Any IsImport) ImportWide import_at (λ r. Ok (import None s, r)) (t.Text s) ts (Ok (import None s, ts)) (λ r. refl)
    (done_reads (Behind (t.Text s) (Any IsImport)) (λ r. Ok (import None s, r)) ts (import None s) (λ tail. (0, d.plainly s tail)) (λ r e. refl))
import_reads (t.Ident i ∷ ts) =
    cons_by (Any IsImport) ImportWide import_at (named_import i) (t.Ident i) ts (named_import i ts) (λ r. refl)
    (value_by IsText (going IsText) (Behind (t.Ident i) (Any IsImport)) (λ f. Behind (t.Ident i) (ImportWide f)) text_at (λ s. import (Some i) s) ts (λ us s rest w. rw w (0, d.named_so i s rest))
    (λ f us s rest w. wide_of (Any IsImport) (Any IsAnyImport) import_wider f (t.Ident i ∷ us) (import (Some i) s) rest
    (turned IsText (Any IsImport) (t.Ident i ∷ []) s (import (Some i) s) rest rest (λ vs v. rw v (0, d.named_so i s rest)) f us w))
    (text_at ts) (text_reads ts))
import_reads (t.Dot at ∷ ts) =
    refuse_by (Any IsImport) ImportWide import_at (t.Dot at ∷ ts) (DotImport (length (t.Dot at ∷ ts))) some_import refl (next_is (λ r. import_at r ≡ dot_import r) (t.Dot at) (λ r. refl))
    (record { next = t.Dot at; comes = refl; beyond = t.Text any_text ∷ []; formed = import None any_text; goes = λ tail. (0, d.all_names at any_text tail) })
import_reads (k ∷ ts) = refuse_next_by (Any IsImport) ImportWide import_at k ts some_import (λ r. refl)

no_import_of : (m : ℕ) (x : Import) (us : List Symbol) → IsImport m [] x us → ⊥
no_import_of m x us w = elim w [ ]

no_import_here : (x : Import) (us : List Symbol) → Any IsImport [] x us → ⊥
no_import_here x us w = no_import_of w.0 x us w.1

pub import_eats : Eats import_at
import_eats = eats_by (Any IsImport) ImportWide import_at no_import_here import_reads

-- ---- those of a block

abbrev Blocks : List Symbol → List Import → List Symbol → Type 0
Blocks = Any (IsBlock IsImport)

abbrev WideBlocks : List Symbol → List Import → List Symbol → Type 0
WideBlocks = Any (IsBlock IsAnyImport)

abbrev Whole : List Symbol → Import → Type 0
Whole front x = (tail : List Symbol) → Any IsImport (front ++ tail) x tail

-- an item and a semicolon before what a fault goes on to
block_goes : (front : List Symbol) (x : Import) → Whole front x → (f : Fault) (us : List Symbol) (ys : List Import) (rest : List Symbol) → Wide Blocks WideBlocks f us ys rest → (s : ℕ) → Wide Blocks WideBlocks f (front ++ t.Semicolon s ∷ us) (x ∷ ys) rest
block_goes front x h f us ys rest w s =
    subst (λ ws. Wide Blocks WideBlocks f ws (x ∷ ys) rest) (append_assoc front (t.Semicolon s ∷ []) us)
    (wide_as Blocks WideBlocks Blocks WideBlocks (front ++ t.Semicolon s ∷ []) ys (x ∷ ys) rest rest
    (λ vs v. let o = h (t.Semicolon s ∷ vs) in subst (λ ws. Blocks ws (x ∷ ys) rest) (sym (append_assoc front (t.Semicolon s ∷ []) vs)) (max o.0 v.0, d.more_in_block o.0 v.0 s (front ++ t.Semicolon s ∷ vs) vs x ys rest o.1 v.1))
    (λ vs v.
    let o = h (t.Semicolon s ∷ vs) in
    subst (λ ws. WideBlocks ws (x ∷ ys) rest) (sym (append_assoc front (t.Semicolon s ∷ []) vs))
    (max o.0 v.0, d.more_in_block o.0 v.0 s (front ++ t.Semicolon s ∷ vs) vs x ys rest (d.by_name o.0 (front ++ t.Semicolon s ∷ vs) x (t.Semicolon s ∷ vs) o.1) v.1))
    f us w)

block_end : (front : List Symbol) (x : Import) → Whole front x → (later : List Symbol → Reply (List Import)) (us : List Symbol) → ((vs : List Symbol) → length vs < length us → ReadsBy Blocks (Wide Blocks WideBlocks) later vs (later vs))
    → ReadsBy (After (Any IsImport) Blocks x) (λ f vs ys r. Wide Blocks WideBlocks f (front ++ vs) ys r) (series_end (rows is_close_paren) later x) us (series_end (rows is_close_paren) later x us)
block_end front x whole later us h =
    choose_by is_close_paren (After (Any IsImport) Blocks x) (λ f vs ys r. Wide Blocks WideBlocks f (front ++ vs) ys r) close_paren (λ rest. Ok (x ∷ [], rest)) (λ vs. past is_semicolon vs >>= λ ws. series_next (rows is_close_paren) later x ws) us
    (λ vs. done_reads (Past close_paren (After (Any IsImport) Blocks x)) (λ rest. Ok (x ∷ [], rest)) vs (x ∷ []) (λ tail c ts w. (w.0, d.last_in_block w.0 c ts x tail w.1)) (λ r e. refl))
    (λ e. past_by is_semicolon (After (Any IsImport) Blocks x) (λ f vs ys r. Wide Blocks WideBlocks f (front ++ vs) ys r) semicolon (series_next (rows is_close_paren) later x) us
    (record { tokens = t.CloseParen 0 ∷ []; made = x ∷ []; stands = λ tail s ts w. (max w.0 0, d.more_in_block w.0 0 s ts (t.CloseParen 0 ∷ tail) x [] tail w.1 (d.none_in_block 0 tail)) })
    (λ k vs same.
    value_by Blocks (Wide Blocks WideBlocks) (Past semicolon (After (Any IsImport) Blocks x)) (λ f. Past semicolon (λ ws ys r. Wide Blocks WideBlocks f (front ++ ws) ys r)) later (λ ys. x ∷ ys) vs
    (λ ws ys rest w s ts v. (max v.0 w.0, d.more_in_block v.0 w.0 s ts ws x ys rest v.1 w.1)) (λ f ws ys rest w s. block_goes front x whole f ws ys rest w s) (later vs) (h vs (rw same (omega arith)))))

block_step : (later : List Symbol → Reply (List Import)) (ts : List Symbol) → ((vs : List Symbol) → length vs < length ts → ReadsBy Blocks (Wide Blocks WideBlocks) later vs (later vs))
    → ReadsBy Blocks (Wide Blocks WideBlocks) (series_by (rows is_close_paren) import_at later) ts (series_by (rows is_close_paren) import_at later ts)
block_step later ts h =
    choose_by is_close_paren Blocks (Wide Blocks WideBlocks) close_paren (λ rest. Ok ([], rest)) (series_item (rows is_close_paren) import_at later) ts
    (λ vs. done_reads (Past close_paren Blocks) (λ rest. Ok ([], rest)) vs [] (λ tail c. (0, d.none_in_block c tail)) (λ r e. refl))
    (λ e. bind_front (Any IsImport) ImportWide Blocks (Wide Blocks WideBlocks) import_at (series_end (rows is_close_paren) later) ts
    (λ x. record { tokens = t.CloseParen 0 ∷ []; made = x ∷ []; stands = λ tail us w. (w.0, d.last_in_block w.0 0 us x tail w.1) })
    (λ x. t.CloseParen 0 ∷ []) (λ x. x ∷ [])
    (λ f us x r w. wide_as (Any IsImport) (Any IsAnyImport) Blocks WideBlocks [] x (x ∷ []) (t.CloseParen 0 ∷ r) r (λ vs v. (v.0, d.last_in_block v.0 0 vs x r v.1)) (λ vs v. (v.0, d.last_in_block v.0 0 vs x r v.1)) f us w)
    (λ x us o. block_end o.front x o.stands later us (λ vs less. let fewer : length us < length ts = eats (Any IsImport) import_at ts x us (λ ws w. no_import_here x ws w) o in h vs (omega arith)))
    (import_at ts) (import_reads ts))

block_reads : (ts : List Symbol) → ReadsBy Blocks (Wide Blocks WideBlocks) (row is_close_paren import_at) ts (row is_close_paren import_at ts)
block_reads ts = steps_by Blocks (Wide Blocks WideBlocks) (series_by (rows is_close_paren) import_at) (series_local (rows is_close_paren) import_at import_eats) block_step ts

-- ---- groups

abbrev pub Group : List Symbol → List Import → List Symbol → Type 0
Group = Any (IsGroup IsImport)

abbrev pub WideGroup : List Symbol → List Import → List Symbol → Type 0
WideGroup = Any (IsGroup IsAnyImport)

pub group_reads : (ts : List Symbol) → ReadsBy Group (Wide Group WideGroup) (group_at import_at) ts (group_at import_at ts)
group_reads ts =
    choose_by is_open_paren Group (Wide Group WideGroup) open_paren (row is_close_paren import_at) (single_at import_at) ts
    (λ us. as_by Blocks (Past open_paren Group) (Wide Blocks WideBlocks) (λ f. Past open_paren (Wide Group WideGroup f)) (row is_close_paren import_at) us (row is_close_paren import_at us) (λ vs xs rest w o. (w.0, d.grouped w.0 o vs xs rest w.1))
    (λ f vs xs rest w o. wide_as Blocks WideBlocks Group WideGroup (t.OpenParen o ∷ []) xs xs rest rest (λ ws v. (v.0, d.grouped v.0 o ws xs rest v.1)) (λ ws v. (v.0, d.grouped v.0 o ws xs rest v.1)) f vs w)
    (block_reads us))
    (λ e. value_by (Any IsImport) ImportWide Group (Wide Group WideGroup) import_at (λ x. x ∷ []) ts (λ us x rest w. (w.0, d.single w.0 us x rest w.1))
    (λ f us x rest w. wide_as (Any IsImport) (Any IsAnyImport) Group WideGroup [] x (x ∷ []) rest rest (λ ws v. (v.0, d.single v.0 ws x rest v.1)) (λ ws v. (v.0, d.single v.0 ws x rest v.1)) f us w)
    (import_at ts) (import_reads ts))

pub import_local : Local import_step
import_local f g ts h =
    choose_same is_import (decl_at (group_at import_at) f) (decl_at (group_at import_at) g) (Ok ([], ts)) (Ok ([], ts)) ts
    (λ us less. decl_same_by Group (Wide Group WideGroup) (group_at import_at) group_reads f g us (λ vs fewer. h vs (omega arith))) refl

-- ---- declarations, as long as there are more

abbrev pub ImportsAt : List Symbol → List Import → List Symbol → Type 0
ImportsAt = Any IsImports

abbrev pub WideImports : List Symbol → List Import → List Symbol → Type 0
WideImports = Any (IsImportsOf IsAnyImport)

block_wider : (m : ℕ) (us : List Symbol) (xs : List Import) (r : List Symbol) → IsBlock IsImport m us xs r → IsBlock IsAnyImport m us xs r
block_wider m us xs r (d.none_in_block c rest) = d.none_in_block c rest
block_wider m us xs r (d.last_in_block n c ts x rest a) = d.last_in_block n c ts x rest (d.by_name n ts x (t.CloseParen c ∷ rest) a)
block_wider m us xs r (d.more_in_block k n s ts vs x ys rest a b) = d.more_in_block k n s ts vs x ys rest (d.by_name k ts x (t.Semicolon s ∷ vs) a) (block_wider n vs ys rest b)

group_wider : (m : ℕ) (us : List Symbol) (xs : List Import) (r : List Symbol) → IsGroup IsImport m us xs r → IsGroup IsAnyImport m us xs r
group_wider m us xs r (d.single n ts x rest a) = d.single n ts x rest (d.by_name n ts x rest a)
group_wider m us xs r (d.grouped n o ts ys rest a) = d.grouped n o ts ys rest (block_wider n ts ys rest a)

pub imports_wider : (m : ℕ) (us : List Symbol) (xs : List Import) (r : List Symbol) → IsImports m us xs r → IsImportsOf IsAnyImport m us xs r
imports_wider m us xs r (d.no_import rest) = d.no_import rest
imports_wider m us xs r (d.imports_too k n at s ts vs ys zs rest a b) = d.imports_too k n at s ts vs ys zs rest (group_wider k ts ys (t.Semicolon s ∷ vs) a) (imports_wider n vs zs rest b)

-- a declaration before what a fault goes on to
imports_go : (front : List Symbol) (xs : List Import) → ((tail : List Symbol) → Group (front ++ tail) xs tail) → (f : Fault) (us : List Symbol) (ys : List Import) (rest : List Symbol) → Wide ImportsAt WideImports f us ys rest → (s at : ℕ)
    → Wide ImportsAt WideImports f (t.Import at ∷ (front ++ t.Semicolon s ∷ us)) (xs ++ ys) rest
imports_go front xs h f us ys rest w s at =
    subst (λ ws. Wide ImportsAt WideImports f (t.Import at ∷ ws) (xs ++ ys) rest) (append_assoc front (t.Semicolon s ∷ []) us)
    (wide_as ImportsAt WideImports ImportsAt WideImports (t.Import at ∷ (front ++ t.Semicolon s ∷ [])) ys (xs ++ ys) rest rest
    (λ vs v.
    let o = h (t.Semicolon s ∷ vs) in
    subst (λ ws. ImportsAt (t.Import at ∷ ws) (xs ++ ys) rest) (sym (append_assoc front (t.Semicolon s ∷ []) vs)) (max o.0 v.0, d.imports_too o.0 v.0 at s (front ++ t.Semicolon s ∷ vs) vs xs ys rest o.1 v.1))
    (λ vs v.
    let o = h (t.Semicolon s ∷ vs) in
    subst (λ ws. WideImports (t.Import at ∷ ws) (xs ++ ys) rest) (sym (append_assoc front (t.Semicolon s ∷ []) vs))
    (max o.0 v.0, d.imports_too o.0 v.0 at s (front ++ t.Semicolon s ∷ vs) vs xs ys rest (group_wider o.0 (front ++ t.Semicolon s ∷ vs) xs (t.Semicolon s ∷ vs) o.1) v.1))
    f us w)

imports_decl : (later : List Symbol → Reply (List Import)) (ts : List Symbol) → ((vs : List Symbol) → length vs < length ts → ReadsBy ImportsAt (Wide ImportsAt WideImports) later vs (later vs))
    → ReadsBy (Past import_word ImportsAt) (λ f. Past import_word (Wide ImportsAt WideImports f)) (decl_at (group_at import_at) later) ts (decl_at (group_at import_at) later ts)
imports_decl later ts h =
    bind_front Group (Wide Group WideGroup) (Past import_word ImportsAt) (λ f. Past import_word (Wide ImportsAt WideImports f)) (group_at import_at) (decl_end later) ts
    (λ xs. record { tokens = t.Semicolon 0 ∷ []; made = xs ++ []; stands = λ tail vs w at. (max w.0 0, d.imports_too w.0 0 at 0 vs tail xs [] tail w.1 (d.no_import tail)) })
    (λ xs. t.Semicolon 0 ∷ []) (λ xs. xs ++ [])
    (λ f us xs r w at. wide_as Group WideGroup ImportsAt WideImports (t.Import at ∷ []) xs (xs ++ []) (t.Semicolon 0 ∷ r) r (λ vs v. (max v.0 0, d.imports_too v.0 0 at 0 vs r xs [] r v.1 (d.no_import r)))
    (λ vs v. (max v.0 0, d.imports_too v.0 0 at 0 vs r xs [] r v.1 (d.no_import r))) f us w)
    (λ xs us o. past_by is_semicolon (After Group (Past import_word ImportsAt) xs) (λ f vs ys r. Past import_word (Wide ImportsAt WideImports f) (o.front ++ vs) ys r) semicolon (decl_more later xs) us
    (record { tokens = []; made = xs ++ []; stands = λ tail s vs w at. (max w.0 0, d.imports_too w.0 0 at s vs tail xs [] tail w.1 (d.no_import tail)) })
    (λ k ws e.
    let a : length us ≤ length ts = no_longer Group (group_at import_at) ts xs us o in
    let b : length ws < length us = rw e (omega arith) in
    value_by ImportsAt (Wide ImportsAt WideImports) (Past semicolon (After Group (Past import_word ImportsAt) xs)) (λ f. Past semicolon (λ vs ys r. Past import_word (Wide ImportsAt WideImports f) (o.front ++ vs) ys r)) later (λ ys. xs ++ ys) ws
    (λ ws' ys rest w s vs v at. (max v.0 w.0, d.imports_too v.0 w.0 at s vs ws' xs ys rest v.1 w.1)) (λ f ws' ys rest w s at. imports_go o.front xs o.stands f ws' ys rest w s at) (later ws) (h ws (omega arith))))
    (group_at import_at ts) (group_reads ts)

imports_step : (later : List Symbol → Reply (List Import)) (ts : List Symbol) → ((vs : List Symbol) → length vs < length ts → ReadsBy ImportsAt (Wide ImportsAt WideImports) later vs (later vs))
    → ReadsBy ImportsAt (Wide ImportsAt WideImports) (import_step later) ts (import_step later ts)
imports_step later ts h =
    choose_by_at is_import ImportsAt (Wide ImportsAt WideImports) import_word (decl_at (group_at import_at) later) (λ us. Ok ([], us)) ts
    (λ us less. imports_decl later us (λ vs fewer. h vs (omega arith)))
    (λ e. done_reads ImportsAt (λ us. Ok ([], us)) ts [] (λ tail. (0, d.no_import tail)) (λ r e'. refl))

pub imports_read : (ts : List Symbol) → ReadsBy ImportsAt (Wide ImportsAt WideImports) imports_at ts (imports_at ts)
imports_read ts = steps_by ImportsAt (Wide ImportsAt WideImports) import_step import_local imports_step ts
