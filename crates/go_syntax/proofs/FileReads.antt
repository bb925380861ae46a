-- What the readers of declarations and files do.
use Rattle.std.proofs.Common.{◌≡◌, ℕ, max, ◌<◌, ◌≤◌, true, List, [], ◌∷◌, ◌++◌, length, Some, None, Ok, refl, sym, subst, arith}
use Rattle.go_expr_syntax.specs.declared.symbols.Symbol.{Symbol}
use Rattle.go_expr_syntax.specs.declared.symbols.Symbol.TheVariants as t
use Rattle.go_expr_syntax.specs.declared.symbols.Ident.{Ident}
use Rattle.go_expr_syntax.specs.declared.faults.Fault.{Fault}
use Rattle.go_syntax.specs.declared.tree.Import.{Import}
use Rattle.go_syntax.specs.declared.tree.Top.{Top}
use Rattle.go_syntax.specs.declared.tree.Top.TheVariants as top
use Rattle.go_syntax.specs.declared.tree.FuncDecl.{FuncDecl}
use Rattle.go_syntax.specs.declared.tree.SourceFile.{SourceFile}
use Rattle.go_expr_syntax.specs.Reading.{Reply, ◌>>=◌, past, choose, is_package, is_semicolon, is_comma, is_assign, is_var, is_type, is_const, is_func}
use Rattle.go_expr_syntax.specs.Names.{IsNames, one, more, ident_at, names_at}
use Rattle.go_type_syntax.specs.Types.{type_at}
use Rattle.go_syntax.specs.Skipped.{IsSkipped, skip}
use Rattle.go_syntax.specs.Functions.{func_at}
use Rattle.go_syntax.specs.declared.constants.Written.{Written}
use Rattle.go_syntax.specs.Constants.{IsConstSpec, counted, const_spec_at}
use Rattle.go_syntax.specs.Decls as d
use Rattle.go_syntax.specs.Decls.{vars, defined, source_file, IsAnyImport, IsValue, IsVarSpec, IsTypeSpec, IsGroup, IsTops, IsFileWith, IsFileOf}
use Rattle.go_syntax.specs.Files.{value_by, value_at, vars_typed, vars_rest, vars_more, vars_first, var_spec_at, type_first, type_spec_at, group_at, const_group_at, func_group_at, decl_at, top_step, imports_at, tops_at, file_tops, file_imports, file_clause, file_name, file_front}
use Rattle.go_expr_syntax.proofs.Viable.{going, turned, ReadsBy, ReadsAt, Behind, Past, After, done_reads, like_reads, as_reads, past_by, choose_reads_on, choose_reads, bind_front, bind_reads, value_by as valued_by, value_reads}
use Rattle.go_expr_syntax.proofs.Marks.{semicolon, comma, assign, var_word, type_word, const_word, func_word, package_word}
use Rattle.go_expr_syntax.proofs.NameReads.{IsIdent, any_ident, ident_reads, names_reads, no_names, through_value}
use Rattle.go_type_syntax.proofs.Standing.{TypeAt, some_type}
use Rattle.go_type_syntax.proofs.TypeReads.{type_reads}
use Rattle.go_syntax.proofs.ConstReads.{no_const, const_reads}
use Rattle.go_syntax.proofs.SkipReads.{SkippedAt, skip_reads}
use Rattle.go_syntax.proofs.FuncReads.{FuncAt, func_reads}
use Rattle.go_syntax.proofs.GenericReads.{type_first_reads}
use Rattle.go_expr_syntax.proofs.Rows.{Eats, eats_of, choose_same}
use Rattle.go_expr_syntax.proofs.Steps.{Local, steps_read}
use Rattle.go_syntax.proofs.ImportReads.{Wide, wide_as, wide_of, ImportsAt, WideImports, imports_wider, imports_read}
use Rattle.go_syntax.proofs.Groups.{Any, group_reads, decl_same, decl_reads}

-- ---- variables

abbrev VarAt : List Symbol → Top → List Symbol → Type 0
VarAt = Any IsVarSpec

-- this, with its value skipped, or with none
abbrev SkippedOf : Top → List Symbol → Top → List Symbol → Type 0
SkippedOf x ts y rest = (y ≡ x) × IsSkipped true ts rest

abbrev ValueOf : Top → List Symbol → Top → List Symbol → Type 0
ValueOf x ts y rest = (y ≡ x) × IsValue ts rest

skipped_reads : (x : Top) (ts : List Symbol) → ReadsAt (SkippedOf x) (value_by x) ts (value_by x ts)
skipped_reads x ts = value_reads (SkippedAt true) (SkippedOf x) (skip true []) (λ u. x) ts (λ us u rest w. (refl, w)) (skip true [] ts) (skip_reads true ts)

init_reads : (x : Top) (ts : List Symbol) → ReadsAt (ValueOf x) (value_at x) ts (value_at x ts)
init_reads x ts =
    choose_reads is_assign (ValueOf x) assign (value_by x) (λ us. Ok (x, us)) ts
    (λ us. as_reads (SkippedOf x) (Past assign (ValueOf x)) (value_by x) us (value_by x us) (λ vs y rest w a. (w.0, d.value a vs rest w.1)) (skipped_reads x us))
    (λ e. done_reads (ValueOf x) (λ us. Ok (x, us)) ts x (λ tail. (refl, d.no_value tail)) (λ r e'. refl))

abbrev Rest : Ident → List Ident → List Symbol → Top → List Symbol → Type 0
Rest i names = After IsNames VarAt (i ∷ names)

typed_reads : (n : ℕ) (i : Ident) (names : List Ident) (ts : List Symbol) → ReadsAt (Rest i names) (vars_typed n (i ∷ names)) ts (vars_typed n (i ∷ names) ts)
typed_reads n i names ts =
    bind_reads TypeAt (Rest i names) (type_at n) (λ ty us. value_at (vars (i ∷ names) (Some ty.0)) us) ts
    (λ ty. record { tokens = []; made = vars (i ∷ names) (Some ty.0); stands = λ tail us w vs v. (w.0, d.of_type w.0 vs i names us ty.0 tail tail v w.1 (d.no_value tail)) })
    (λ ty us o. as_reads (ValueOf (vars (i ∷ names) (Some ty.0))) (After TypeAt (Rest i names) ty) (value_at (vars (i ∷ names) (Some ty.0))) us (value_at (vars (i ∷ names) (Some ty.0)) us)
    (λ vs x rest q ws w xs v. rw q.0 (w.0, d.of_type w.0 xs i names ws ty.0 vs rest v w.1 q.1)) (init_reads (vars (i ∷ names) (Some ty.0)) us))
    (type_at n ts) (type_reads n ts)

rest_reads : (n : ℕ) (i : Ident) (names : List Ident) (ts : List Symbol) → ReadsAt (Rest i names) (vars_rest n (i ∷ names)) ts (vars_rest n (i ∷ names) ts)
rest_reads n i names ts =
    choose_reads is_assign (Rest i names) assign (value_by (vars (i ∷ names) None)) (vars_typed n (i ∷ names)) ts
    (λ us. as_reads (SkippedOf (vars (i ∷ names) None)) (Past assign (Rest i names)) (value_by (vars (i ∷ names) None)) us (value_by (vars (i ∷ names) None) us)
    (λ vs x rest q a ws v. rw q.0 (0, d.of_value a ws i names vs rest v q.1)) (skipped_reads (vars (i ∷ names) None) us))
    (λ e. typed_reads n i names ts)

abbrev flat_vars : ℕ → Ident → List Symbol → Reply Top
flat_vars n i ts = names_at ts >>= λ names. vars_rest n (i ∷ names.0) names.1

vars_is : (n : ℕ) (i : Ident) (ts : List Symbol) → vars_more n i ts ≡ flat_vars n i ts
vars_is n i ts = through_value (names_at ts) (λ (names : List Ident). i ∷ names) (λ names us. vars_rest n names us)

flat_reads : (n : ℕ) (i : Ident) (ts : List Symbol) → ReadsAt (Past comma (Behind (t.Ident i) VarAt)) (flat_vars n i) ts (flat_vars n i ts)
flat_reads n i ts =
    bind_reads IsNames (Past comma (Behind (t.Ident i) VarAt)) names_at (λ names us. vars_rest n (i ∷ names) us) ts
    (λ names. record {
      tokens = some_type.tokens;
      made = vars (i ∷ names) (Some some_type.made.0);
      stands = λ tail us w c. let s = some_type.stands tail in (s.0, d.of_type s.0 (t.Ident i ∷ t.Comma c ∷ us) i names _ _ tail tail (more i c us names _ w) s.1 (d.no_value tail));
    })
    (λ names us o. as_reads (Rest i names) (After IsNames (Past comma (Behind (t.Ident i) VarAt)) names) (vars_rest n (i ∷ names)) us (vars_rest n (i ∷ names) us)
    (λ vs f rest q ws w c. q (t.Ident i ∷ t.Comma c ∷ ws) (more i c ws names vs w)) (rest_reads n i names us))
    (names_at ts) (names_reads ts)

first_reads : (n : ℕ) (i : Ident) (ts : List Symbol) → ReadsAt (Behind (t.Ident i) VarAt) (vars_first n i) ts (vars_first n i ts)
first_reads n i ts =
    choose_reads is_comma (Behind (t.Ident i) VarAt) comma (vars_more n i) (vars_rest n (i ∷ [])) ts
    (λ us. like_reads (Past comma (Behind (t.Ident i) VarAt)) (vars_more n i) (flat_vars n i) us (vars_more n i us) (λ r e. vars_is n i r)
    (subst (ReadsAt (Past comma (Behind (t.Ident i) VarAt)) (flat_vars n i) us) (sym (vars_is n i us)) (flat_reads n i us)))
    (λ e. as_reads (Rest i []) (Behind (t.Ident i) VarAt) (vars_rest n (i ∷ [])) ts (vars_rest n (i ∷ []) ts) (λ us f rest q. q (t.Ident i ∷ us) (one i us)) (rest_reads n i [] ts))

pub var_reads : (n : ℕ) (ts : List Symbol) → ReadsAt VarAt (var_spec_at n) ts (var_spec_at n ts)
var_reads n ts =
    bind_reads IsIdent VarAt ident_at (vars_first n) ts
    (λ i. record {
      tokens = some_type.tokens;
      made = vars (i ∷ []) (Some some_type.made.0);
      stands = λ tail us e. let s = some_type.stands tail in rw e (s.0, d.of_type s.0 _ i [] _ _ tail tail (one i _) s.1 (d.no_value tail));
    })
    (λ i us o. as_reads (Behind (t.Ident i) VarAt) (After IsIdent VarAt i) (vars_first n i) us (vars_first n i us) (λ vs x rest w ws e. rw e w) (first_reads n i us))
    (ident_at ts) (ident_reads ts)

no_var_of : (m : ℕ) (x : Top) (us : List Symbol) → IsVarSpec m [] x us → ⊥
no_var_of m x us (d.of_type n ts i names vs ty ws rest a b w) = no_names (i ∷ names) vs a
no_var_of m x us (d.of_value at ts i names vs rest a w) = no_names (i ∷ names) (t.Assign at ∷ vs) a

pub no_var : (x : Top) (us : List Symbol) → VarAt [] x us → ⊥
no_var x us w = no_var_of w.0 x us w.1

-- ---- types

abbrev SpecAt : List Symbol → Top → List Symbol → Type 0
SpecAt = Any IsTypeSpec

pub spec_reads : (n : ℕ) → 2 ≤ n → (ts : List Symbol) → ReadsAt SpecAt (type_spec_at n) ts (type_spec_at n ts)
spec_reads n two ts =
    bind_reads IsIdent SpecAt ident_at (type_first n) ts
    (λ i. record { tokens = some_type.tokens; made = defined i [] some_type.made.0; stands = λ tail us e. let s = some_type.stands tail in rw e (s.0, d.defines s.0 i _ _ tail s.1) })
    (λ i us o. as_reads (Behind (t.Ident i) SpecAt) (After IsIdent SpecAt i) (type_first n i) us (type_first n i us) (λ vs x rest w ws e. rw e w) (type_first_reads n i us two))
    (ident_at ts) (ident_reads ts)

no_spec_of : (m : ℕ) (x : Top) (us : List Symbol) → IsTypeSpec m [] x us → ⊥
no_spec_of m x us w = elim w [ ]

pub no_spec : (x : Top) (us : List Symbol) → SpecAt [] x us → ⊥
no_spec x us w = no_spec_of w.0 x us w.1

-- ---- rows of declarations

-- groups

pub var_groups : (n : ℕ) (ts : List Symbol) → ReadsAt (Any (IsGroup IsVarSpec)) (group_at (var_spec_at n)) ts (group_at (var_spec_at n) ts)
var_groups n ts = group_reads IsVarSpec (var_spec_at n) no_var (var_reads n) ts

pub type_groups : (n : ℕ) → 2 ≤ n → (ts : List Symbol) → ReadsAt (Any (IsGroup IsTypeSpec)) (group_at (type_spec_at n)) ts (group_at (type_spec_at n) ts)
type_groups n two ts = group_reads IsTypeSpec (type_spec_at n) no_spec (spec_reads n two) ts

-- a group of constants, counted
abbrev pub ConstsAt : List Symbol → List Top → List Symbol → Type 0
ConstsAt ts xs rest = (ws : List Written) × (xs ≡ counted 0 0 ws) × Any (IsGroup IsConstSpec) ts ws rest

pub const_groups : (n : ℕ) (ts : List Symbol) → ReadsAt ConstsAt (const_group_at n) ts (const_group_at n ts)
const_groups n ts =
    value_reads (Any (IsGroup IsConstSpec)) ConstsAt (group_at (const_spec_at n)) (counted 0 0) ts (λ us ws rest w. (ws, refl, w)) (group_at (const_spec_at n) ts)
    (group_reads IsConstSpec (const_spec_at n) no_const (const_reads n) ts)

-- a function alone
abbrev pub FuncsAt : List Symbol → List Top → List Symbol → Type 0
FuncsAt ts xs rest = (f : FuncDecl) × (xs ≡ top.Func f ∷ []) × FuncAt ts f rest

pub func_groups : (n : ℕ) (ts : List Symbol) → ReadsAt FuncsAt (func_group_at n) ts (func_group_at n ts)
func_groups n ts = value_reads FuncAt FuncsAt (func_at n) (λ f. top.Func f ∷ []) ts (λ us f rest w. (f, refl, w)) (func_at n ts) (func_reads n ts)

pub top_local : (n : ℕ) → 2 ≤ n → Local (top_step n)
top_local n two f g ts h =
    choose_same is_var (decl_at (group_at (var_spec_at n)) f) (decl_at (group_at (var_spec_at n)) g) _ _ ts
    (λ us less. decl_same (Any (IsGroup IsVarSpec)) (group_at (var_spec_at n)) (var_groups n) f g us (λ vs fewer. h vs (omega arith)))
    (choose_same is_type (decl_at (group_at (type_spec_at n)) f) (decl_at (group_at (type_spec_at n)) g) _ _ ts
    (λ us less. decl_same (Any (IsGroup IsTypeSpec)) (group_at (type_spec_at n)) (type_groups n two) f g us (λ vs fewer. h vs (omega arith)))
    (choose_same is_const (decl_at (const_group_at n) f) (decl_at (const_group_at n) g) _ _ ts
    (λ us less. decl_same ConstsAt (const_group_at n) (const_groups n) f g us (λ vs fewer. h vs (omega arith)))
    (choose_same is_func (decl_at (func_group_at n) f) (decl_at (func_group_at n) g) (Ok ([], ts)) (Ok ([], ts)) ts
    (λ us less. decl_same FuncsAt (func_group_at n) (func_groups n) f g us (λ vs fewer. h vs (omega arith))) refl)))

abbrev TopsAt : List Symbol → List Top → List Symbol → Type 0
TopsAt = Any IsTops

-- a function, or no more; or constants; or types
abbrev funcs_or : ℕ → (List Symbol → Reply (List Top)) → List Symbol → Reply (List Top)
funcs_or n later us = choose (past is_func us) (decl_at (func_group_at n) later) (Ok ([], us))

abbrev consts_or : ℕ → (List Symbol → Reply (List Top)) → List Symbol → Reply (List Top)
consts_or n later us = choose (past is_const us) (decl_at (const_group_at n) later) (funcs_or n later us)

abbrev types_or : ℕ → (List Symbol → Reply (List Top)) → List Symbol → Reply (List Top)
types_or n later us = choose (past is_type us) (decl_at (group_at (type_spec_at n)) later) (consts_or n later us)

func_step_reads : (n : ℕ) (later : List Symbol → Reply (List Top)) (ts : List Symbol) → ((vs : List Symbol) → length vs < length ts → ReadsAt TopsAt later vs (later vs)) → ReadsAt TopsAt (funcs_or n later) ts (funcs_or n later ts)
func_step_reads n later ts h =
    choose_reads_on is_func TopsAt func_word (decl_at (func_group_at n) later) (λ us. Ok ([], us)) ts
    (λ us less. decl_reads FuncsAt (func_group_at n) (func_groups n) TopsAt (Past func_word TopsAt) later us
    (λ vs xs s ws ys rest w v at. rw w.1 (max w.2.0 v.0, d.func_too w.2.0 v.0 at s vs ws w.0 ys rest w.2.1 v.1)) (λ rest. (0, d.no_top rest)) (λ vs fewer. h vs (omega arith)))
    (λ e. done_reads TopsAt (λ us. Ok ([], us)) ts [] (λ tail. (0, d.no_top tail)) (λ r e'. refl))

const_step_reads : (n : ℕ) (later : List Symbol → Reply (List Top)) (ts : List Symbol) → ((vs : List Symbol) → length vs < length ts → ReadsAt TopsAt later vs (later vs)) → ReadsAt TopsAt (consts_or n later) ts (consts_or n later ts)
const_step_reads n later ts h =
    choose_reads_on is_const TopsAt const_word (decl_at (const_group_at n) later) (funcs_or n later) ts
    (λ us less. decl_reads ConstsAt (const_group_at n) (const_groups n) TopsAt (Past const_word TopsAt) later us
    (λ vs xs s ws ys rest w v at. rw w.1 (max w.2.0 v.0, d.consts_too w.2.0 v.0 at s vs ws w.0 ys rest w.2.1 v.1)) (λ rest. (0, d.no_top rest)) (λ vs fewer. h vs (omega arith)))
    (λ e. func_step_reads n later ts h)

type_step_reads : (n : ℕ) → 2 ≤ n → (later : List Symbol → Reply (List Top)) (ts : List Symbol) → ((vs : List Symbol) → length vs < length ts → ReadsAt TopsAt later vs (later vs)) → ReadsAt TopsAt (types_or n later) ts (types_or n later ts)
type_step_reads n two later ts h =
    choose_reads_on is_type TopsAt type_word (decl_at (group_at (type_spec_at n)) later) (consts_or n later) ts
    (λ us less. decl_reads (Any (IsGroup IsTypeSpec)) (group_at (type_spec_at n)) (type_groups n two) TopsAt (Past type_word TopsAt) later us
    (λ vs xs s ws ys rest w v at. (max w.0 v.0, d.types_too w.0 v.0 at s vs ws xs ys rest w.1 v.1)) (λ rest. (0, d.no_top rest)) (λ vs fewer. h vs (omega arith)))
    (λ e. const_step_reads n later ts h)

top_step_reads : (n : ℕ) → 2 ≤ n → (later : List Symbol → Reply (List Top)) (ts : List Symbol) → ((vs : List Symbol) → length vs < length ts → ReadsAt TopsAt later vs (later vs)) → ReadsAt TopsAt (top_step n later) ts (top_step n later ts)
top_step_reads n two later ts h =
    choose_reads_on is_var TopsAt var_word (decl_at (group_at (var_spec_at n)) later) (types_or n later) ts
    (λ us less. decl_reads (Any (IsGroup IsVarSpec)) (group_at (var_spec_at n)) (var_groups n) TopsAt (Past var_word TopsAt) later us
    (λ vs xs s ws ys rest w v at. (max w.0 v.0, d.vars_too w.0 v.0 at s vs ws xs ys rest w.1 v.1)) (λ rest. (0, d.no_top rest)) (λ vs fewer. h vs (omega arith)))
    (λ e. type_step_reads n two later ts h)

pub tops_read : (n : ℕ) → 2 ≤ n → (ts : List Symbol) → ReadsAt TopsAt (tops_at n) ts (tops_at n ts)
tops_read n two ts = steps_read TopsAt (top_step n) (top_local n two) (top_step_reads n two) ts

-- ---- files

abbrev pub FileAt : List Symbol → SourceFile → List Symbol → Type 0
FileAt = Any IsFileOf

-- where imports may be of all the names of a package
abbrev pub WideFile : List Symbol → SourceFile → List Symbol → Type 0
WideFile = Any (IsFileWith IsAnyImport)

file_wider_of : (m : ℕ) (us : List Symbol) (x : SourceFile) (r : List Symbol) → IsFileOf m us x r → IsFileWith IsAnyImport m us x r
file_wider_of m us x r (d.file k n at i s ts vs imports tops rest a b) = d.file k n at i s ts vs imports tops rest (imports_wider k ts imports vs a) b

pub file_wider : (us : List Symbol) (x : SourceFile) (r : List Symbol) → FileAt us x r → WideFile us x r
file_wider us x r w = (w.0, file_wider_of w.0 us x r w.1)

-- after the word and the name
abbrev Clause : List Symbol → Fault → List Symbol → SourceFile → List Symbol → Type 0
Clause front f us x r = (at : ℕ) → Wide FileAt WideFile f (t.Package at ∷ (front ++ us)) x r

-- the name before what a fault goes on to
named_goes : (i : Ident) (front : List Symbol) → ((tail : List Symbol) → front ++ tail ≡ t.Ident i ∷ tail) → (f : Fault) (us : List Symbol) (x : SourceFile) (r : List Symbol) → ((at : ℕ) → Wide FileAt WideFile f (t.Package at ∷ t.Ident i ∷ us) x r) → Clause front f us x r
named_goes i front same f us x r h at = subst (λ ws. Wide FileAt WideFile f (t.Package at ∷ ws) x r) (sym (same us)) (h at)

imports_go_on : (i : Ident) (s at : ℕ) (f : Fault) (us : List Symbol) (xs : List Import) (r : List Symbol) → Wide ImportsAt WideImports f us xs r → Wide FileAt WideFile f (t.Package at ∷ t.Ident i ∷ t.Semicolon s ∷ us) (source_file i xs []) r
imports_go_on i s at f us xs r w =
    wide_as ImportsAt WideImports FileAt WideFile (t.Package at ∷ t.Ident i ∷ t.Semicolon s ∷ []) xs (source_file i xs []) r r
    (λ vs v. (max v.0 0, d.file v.0 0 at i s vs r xs [] r v.1 (d.no_top r))) (λ vs v. (max v.0 0, d.file v.0 0 at i s vs r xs [] r v.1 (d.no_top r))) f us w

tops_go_on : (i : Ident) (s at : ℕ) (front : List Symbol) (xs : List Import) → ((tail : List Symbol) → ImportsAt (front ++ tail) xs tail) → (f : Fault) (us : List Symbol) (tops : List Top) (r : List Symbol) → going TopsAt f us tops r
    → Wide FileAt WideFile f (t.Package at ∷ t.Ident i ∷ t.Semicolon s ∷ (front ++ us)) (source_file i xs tops) r
tops_go_on i s at front xs h f us tops r w =
    wide_of FileAt WideFile file_wider f (t.Package at ∷ t.Ident i ∷ t.Semicolon s ∷ (front ++ us)) (source_file i xs tops) r
    (turned TopsAt FileAt (t.Package at ∷ t.Ident i ∷ t.Semicolon s ∷ front) tops (source_file i xs tops) r r (λ vs v. let o = h vs in (max o.0 v.0, d.file o.0 v.0 at i s (front ++ vs) vs xs tops r o.1 v.1)) f us w)

-- after the semicolon of the package clause
body_reads : (n : ℕ) → 2 ≤ n → (i : Ident) (front : List Symbol) → ((tail : List Symbol) → front ++ tail ≡ t.Ident i ∷ tail) → (ts : List Symbol)
    → ReadsBy (Past semicolon (After IsIdent (Past package_word FileAt) i)) (λ f. Past semicolon (Clause front f)) (file_imports n i) ts (file_imports n i ts)
body_reads n two i front same ts =
    bind_front ImportsAt (Wide ImportsAt WideImports) (Past semicolon (After IsIdent (Past package_word FileAt) i)) (λ f. Past semicolon (Clause front f)) imports_at (file_tops n i) ts
    (λ xs. record { tokens = []; made = source_file i xs []; stands = λ tail vs w s us e at. rw e (max w.0 0, d.file w.0 0 at i s vs tail xs [] tail w.1 (d.no_top tail)) })
    (λ xs. []) (λ xs. source_file i xs []) (λ f us xs r w s. named_goes i front same f (t.Semicolon s ∷ us) (source_file i xs []) r (λ at. imports_go_on i s at f us xs r w))
    (λ xs us o. valued_by TopsAt (going TopsAt) (After ImportsAt (Past semicolon (After IsIdent (Past package_word FileAt) i)) xs) (λ f vs x r. Past semicolon (Clause front f) (o.front ++ vs) x r) (tops_at n) (λ tops. source_file i xs tops) us
    (λ vs tops rest v ws w s ys e at. rw e (max w.0 v.0, d.file w.0 v.0 at i s ws vs xs tops rest w.1 v.1))
    (λ f vs tops rest w s. named_goes i front same f (t.Semicolon s ∷ (o.front ++ vs)) (source_file i xs tops) rest (λ at. tops_go_on i s at o.front xs o.stands f vs tops rest w)) (tops_at n us) (tops_read n two us))
    (imports_at ts) (imports_read ts)

pub file_reads : (n : ℕ) → 2 ≤ n → (ts : List Symbol) → ReadsBy FileAt (Wide FileAt WideFile) (file_front n) ts (file_front n ts)
unfolding file_front
file_reads n two ts =
    past_by is_package FileAt (Wide FileAt WideFile) package_word (file_name n) ts
    (record { tokens = t.Ident any_ident ∷ t.Semicolon 0 ∷ []; made = source_file any_ident [] []; stands = λ tail at. (0, d.file 0 0 at any_ident 0 tail tail [] [] tail (d.no_import tail) (d.no_top tail)) })
    (λ k us e. bind_front IsIdent (going IsIdent) (Past package_word FileAt) (λ f. Past package_word (Wide FileAt WideFile f)) ident_at (file_clause n) us
    (λ i. record { tokens = t.Semicolon 0 ∷ []; made = source_file i [] []; stands = λ tail vs e at. rw e (0, d.file 0 0 at i 0 tail tail [] [] tail (d.no_import tail) (d.no_top tail)) })
    (λ i. t.Semicolon 0 ∷ []) (λ i. source_file i [] [])
    (λ f vs i r w at. wide_of FileAt WideFile file_wider f (t.Package at ∷ vs) (source_file i [] []) r
    (turned IsIdent FileAt (t.Package at ∷ []) i (source_file i [] []) (t.Semicolon 0 ∷ r) r (λ ws same. rw same (0, d.file 0 0 at i 0 r r [] [] r (d.no_import r) (d.no_top r))) f vs w))
    (λ i vs o. past_by is_semicolon (After IsIdent (Past package_word FileAt) i) (λ f ws x r. Past package_word (Wide FileAt WideFile f) (o.front ++ ws) x r) semicolon (file_imports n i) vs
    (record { tokens = []; made = source_file i [] []; stands = λ tail s ws e at. rw e (0, d.file 0 0 at i s tail tail [] [] tail (d.no_import tail) (d.no_top tail)) })
    (λ k' ws e'. body_reads n two i o.front o.stands ws))
    (ident_at us) (ident_reads us))

-- ---- specifications take tokens

pub var_eats : (n : ℕ) → Eats (var_spec_at n)
var_eats n = eats_of (Any IsVarSpec) (var_spec_at n) no_var (var_reads n)

pub type_spec_eats : (n : ℕ) → 2 ≤ n → Eats (type_spec_at n)
type_spec_eats n two = eats_of (Any IsTypeSpec) (type_spec_at n) no_spec (spec_reads n two)
