-- A file that is written is read again.
use Rattle.std.proofs.Common.{◌≡◌, ◌≤◌, ℕ, max, true, false, List, [], ◌∷◌, ◌++◌, Some, None, Ok, refl, arith}
use Rattle.go_expr_syntax.specs.declared.symbols.Symbol.{Symbol}
use Rattle.go_expr_syntax.specs.declared.symbols.Symbol.TheVariants as t
use Rattle.go_expr_syntax.specs.declared.symbols.Ident.{Ident}
use Rattle.go_syntax.specs.declared.tree.Import.{Import}
use Rattle.go_syntax.specs.declared.tree.Top.{Top}
use Rattle.go_syntax.specs.declared.tree.Top.TheVariants as top
use Rattle.go_syntax.specs.declared.tree.FuncDecl.{FuncDecl}
use Rattle.go_syntax.specs.declared.tree.TParam.{TParam}
use Rattle.go_type_syntax.specs.declared.tree.TypeExpr.{TypeExpr}
use Rattle.go_syntax.specs.declared.tree.SourceFile.{SourceFile}
use Rattle.go_expr_syntax.specs.Reading.{Reply, starts, begins_type, is_comma, is_assign, is_open_paren, is_close_paren, is_import, is_var, is_type, is_const, is_func, row}
use Rattle.go_expr_syntax.specs.Names as names_of
use Rattle.go_expr_syntax.specs.Names.{IsNames}
use Rattle.go_type_syntax.specs.Grammar.{IsType}
use Rattle.go_type_syntax.specs.Types.{type_at}
use Rattle.go_syntax.specs.declared.constants.Written.{Written}
use Rattle.go_syntax.specs.Constants.{IsConstSpec, counted, const_spec_at}
use Rattle.go_syntax.specs.Generics.{IsTParams, tparams_at}
use Rattle.go_expr_syntax.specs.Reading.{shows_length}
use Rattle.go_syntax.specs.Skipped.{IsSkipped, skip}
use Rattle.go_syntax.specs.Functions.{IsFunc, func_at}
use Rattle.go_syntax.specs.Decls as d
use Rattle.go_syntax.specs.Decls.{vars, defined, alias, source_file, IsImport, IsValue, IsVarSpec, IsTypeSpec, IsBlock, IsGroup, IsImports, IsTops, IsFileOf}
use Rattle.go_syntax.specs.Files.{import_at, value_by, value_at, vars_typed, vars_rest, vars_more, var_spec_at, alias_by, defined_by, declared_by, type_first, type_spec_at, single_at, group_at, const_group_at, func_group_at, decl_end, decl_at, import_step, top_step, imports_at, tops_at, file_tops, file_imports, file_front}
use Rattle.go_expr_syntax.proofs.Rows.{Eats, eats_of}
use Rattle.go_expr_syntax.proofs.Steps.{steps_is}
use Rattle.go_syntax.proofs.Groups.{Any}
use Rattle.go_syntax.proofs.ConstReads.{no_const, const_reads}
use Rattle.go_syntax.proofs.ConstAgain.{ends_spec, Ended, names_not_open, names_not_close, const_not_open, const_not_close, const_again}
use Rattle.go_syntax.proofs.SkipReads.{skip_again}
use Rattle.go_syntax.proofs.FuncAgain.{func_again}
use Rattle.go_syntax.proofs.GenericAgain.{agrees_more, some_again, type_opens_none, name_opens}
use Rattle.go_syntax.proofs.ImportReads.{import_eats, import_local}
use Rattle.go_syntax.proofs.FileReads.{var_reads, no_var, spec_reads, no_spec, top_local}
use Rattle.go_expr_syntax.proofs.Agreeing.{Agrees, agrees_bind, agrees_from, sized, choose_other, names_again, row_none, row_last, row_more}
use Rattle.go_type_syntax.proofs.Follows.{goes_on, Free, next_so, no_comma, type_begins}
use Rattle.go_type_syntax.proofs.TypeAgain.{type_again}

-- ---- specifications

ends_on : (k : Symbol) → ends_spec k ≡ true → goes_on k ≡ false
ends_on (t.Semicolon c) e = refl
ends_on (t.CloseParen c) e = refl
ends_on _ e = absurd cc

ended_free : (rest : List Symbol) → Ended rest → Free rest
ended_free rest e = next_so ends_spec goes_on true false rest ends_on (λ h. refl) e

type_no_assign : (k : Symbol) → begins_type k ≡ true → is_assign k ≡ false
type_no_assign (t.Assign c) e = absurd cc
type_no_assign _ e = refl

import_again : (n m : ℕ) (ts : List Symbol) (x : Import) (rest : List Symbol) → IsImport m ts x rest → Agrees n m x rest (import_at ts)
import_again n m ts x rest (d.plainly s r) = (refl, refl, omega arith)
import_again n m ts x rest (d.named_so i s r) = (refl, refl, omega arith)

ends_no_assign : (k : Symbol) → ends_spec k ≡ true → is_assign k ≡ false
ends_no_assign (t.Assign c) e = absurd cc
ends_no_assign _ e = refl

skip_here : (k : Symbol) (ts : List Symbol) → ends_spec k ≡ true → skip true [] (k ∷ ts) ≡ Ok (tt, k ∷ ts)
skip_here (t.Semicolon c) ts e = refl
skip_here (t.CloseParen c) ts e = refl
skip_here _ ts e = absurd cc

skip_ended : (rest : List Symbol) → Ended rest → skip true [] rest ≡ Ok (tt, rest)
skip_ended [] e = absurd cc
skip_ended (k ∷ ts) e = skip_here k ts e

skipped_again : (x : Top) (ts rest : List Symbol) → IsSkipped true ts rest → Ended rest → value_by x ts ≡ Ok (x, rest)
skipped_again x ts rest w e = rw (skip_again true ts rest w, skip_ended rest e) refl

init_again : (x : Top) (ts rest : List Symbol) → IsValue ts rest → Ended rest → value_at x ts ≡ Ok (x, rest)
init_again x ts rest (d.no_value r) e = choose_other is_assign r (value_by x) (Ok (x, r)) (next_so ends_spec is_assign true false r ends_no_assign (λ h. refl) e)
init_again x ts rest (d.value a us r w) e = skipped_again x us r w e

value_free : (ts rest : List Symbol) → IsValue ts rest → Ended rest → Free ts
value_free ts rest (d.no_value r) e = ended_free r e
value_free ts rest (d.value a us r w) e = refl

names_are : (n : ℕ) (i : Ident) (names : List Ident) (ts us : List Symbol) → IsNames ts (i ∷ names) us → starts is_comma us ≡ false → var_spec_at n ts ≡ vars_rest n (i ∷ names) us
names_are n i names ts us (names_of.one j r) e = choose_other is_comma us (vars_more n i) (vars_rest n (i ∷ []) us) e
names_are n i names ts us (names_of.more j c vs ns r q) e = rw (names_again vs names us q e) refl

rest_typed : (n : ℕ) (names : List Ident) (us : List Symbol) → starts begins_type us ≡ true → vars_rest n names us ≡ vars_typed n names us
rest_typed n names us b = choose_other is_assign us (value_by (vars names None)) (vars_typed n names us) (next_so begins_type is_assign true false us type_no_assign (λ h. refl) b)

typed_again : (n m : ℕ) (names : List Ident) (ts : List Symbol) (ty : TypeExpr) (us rest : List Symbol) → Agrees n m (sized n m ty) us (type_at n ts) → IsValue us rest → Ended rest
    → Agrees n m (vars names (Some ty)) rest (vars_typed n names ts)
typed_again n m names ts ty us rest h w e =
    agrees_bind n m (sized n m ty) us n m (vars names (Some ty)) rest (type_at n ts) (λ z ws. value_at (vars names (Some z.0)) ws) h (λ x. x)
    (λ f. agrees_from n m (vars names (Some ty)) rest (Ok (vars names (Some ty), rest)) (value_at (vars names (Some ty)) us) (init_again (vars names (Some ty)) us rest w e) (refl, refl, f))

var_again : (n m : ℕ) (ts : List Symbol) (x : Top) (rest : List Symbol) → IsVarSpec m ts x rest → Ended rest → Agrees n m x rest (var_spec_at n ts)
var_again n m ts x rest (d.of_type j us i names vs ty ws r a b w) e =
    let begins = type_begins j vs ty ws b in
    rw (names_are n i names us vs a (no_comma vs begins), rest_typed n (i ∷ names) vs begins) (typed_again n j (i ∷ names) vs ty ws r (type_again j vs ty ws b (value_free ws r w e) n) w e)
var_again n m ts x rest (d.of_value c us i names vs r a w) e =
    rw (names_are n i names us (t.Assign c ∷ vs) a refl)
    (agrees_from n 0 (vars (i ∷ names) None) r (Ok (vars (i ∷ names) None, r)) (value_by (vars (i ∷ names) None) vs) (skipped_again (vars (i ∷ names) None) vs r w e) (refl, refl, omega arith))

defined_again : (n m : ℕ) (i : Ident) (ps : List TParam) (ts : List Symbol) (ty : TypeExpr) (rest : List Symbol) → IsType m ts ty rest → Free rest → Agrees n m (defined i ps ty) rest (declared_by n i ps ts)
defined_again n m i ps ts ty rest b e =
    rw (choose_other is_assign ts (alias_by n i ps) (defined_by n i ps ts) (next_so begins_type is_assign true false ts type_no_assign (λ h. refl) (type_begins m ts ty rest b)))
    (agrees_bind n m (sized n m ty) rest n m (defined i ps ty) rest (type_at n ts) (λ z ws. Ok (defined i ps z.0, ws)) (type_again m ts ty rest b e n) (λ x. x) (λ f. (refl, refl, f)))

alias_again : (n m : ℕ) (i : Ident) (ps : List TParam) (a : ℕ) (ts : List Symbol) (ty : TypeExpr) (rest : List Symbol) → IsType m ts ty rest → Free rest → Agrees n m (alias i ps ty) rest (declared_by n i ps (t.Assign a ∷ ts))
alias_again n m i ps a ts ty rest b e = agrees_bind n m (sized n m ty) rest n m (alias i ps ty) rest (type_at n ts) (λ z ws. Ok (alias i ps z.0, ws)) (type_again m ts ty rest b e n) (λ x. x) (λ f. (refl, refl, f))

generic_spec : (n m k : ℕ) (i : Ident) (a : ℕ) (j : Ident) (ts : List Symbol) (ps : List TParam) (us : List Symbol) (x : Top) (rest : List Symbol) → starts shows_length ts ≡ false → IsTParams m (t.Ident j ∷ ts) ps us
    → Agrees n k x rest (declared_by n i ps us) → Agrees n (max m k) x rest (type_first n i (t.OpenBracket a ∷ t.Ident j ∷ ts))
generic_spec n m k i a j ts ps us x rest s w h =
    rw (name_opens a j ts s)
    (agrees_bind n m ps us n (max m k) x rest (tparams_at n (t.Ident j ∷ ts)) (declared_by n i) (some_again n m (t.Ident j ∷ ts) ps us refl w) (λ d. omega arith) (λ le. agrees_more n m k x rest (declared_by n i ps us) le h))

spec_again : (n m : ℕ) (ts : List Symbol) (x : Top) (rest : List Symbol) → IsTypeSpec m ts x rest → Free rest → Agrees n m x rest (type_spec_at n ts)
spec_again n m ts x rest (d.defines j i us ty r b) e = rw (type_opens_none j us ty r b) (defined_again n j i [] us ty r b e)
spec_again n m ts x rest (d.renames j i a us ty r b) e = alias_again n j i [] a us ty r b e
spec_again n m ts x rest (d.defines_generic k j i a l us ps vs ty r s w b) e = generic_spec n k j i a l us ps vs (defined i ps ty) r s w (defined_again n j i ps vs ty r b e)
spec_again n m ts x rest (d.renames_generic k j i a l us ps c vs ty r s w b) e = generic_spec n k j i a l us ps (t.Assign c ∷ vs) (alias i ps ty) r s w (alias_again n j i ps c vs ty r b e)

-- ---- groups

-- what a group needs of its specifications, where n nodes are allowed
record Items {X : Type 0} (n : ℕ) (F : ℕ → List Symbol → X → List Symbol → Type 0) (one : List Symbol → Reply X) : Type 0 where
  eats_one : Eats one
  again : (m : ℕ) (ts : List Symbol) (x : X) (rest : List Symbol) → F m ts x rest → Ended rest → Agrees n m x rest (one ts)
  no_open : (m : ℕ) (ts : List Symbol) (x : X) (rest : List Symbol) → F m ts x rest → starts is_open_paren ts ≡ false
  no_close : (m : ℕ) (ts : List Symbol) (x : X) (rest : List Symbol) → F m ts x rest → starts is_close_paren ts ≡ false

block_again : {X : Type 0} (n : ℕ) (F : ℕ → List Symbol → X → List Symbol → Type 0) (one : List Symbol → Reply X) → Items n F one → (m : ℕ) (ts : List Symbol) (xs : List X) (rest : List Symbol) → IsBlock F m ts xs rest → Agrees n m xs rest (row is_close_paren one ts)
block_again n F one I m ts xs rest (d.none_in_block c r) = row_none is_close_paren one I.eats_one (t.CloseParen c) r n refl
block_again n F one I m ts xs rest (d.last_in_block j c us x r a) = row_last is_close_paren one I.eats_one n j us x (t.CloseParen c) r (I.no_close j us x (t.CloseParen c ∷ r) a) refl (I.again j us x (t.CloseParen c ∷ r) a refl)
block_again n F one I m ts xs rest (d.more_in_block i j s us vs x ys r a b) =
    row_more is_close_paren one I.eats_one n i j us x s vs ys r (I.no_close i us x (t.Semicolon s ∷ vs) a) refl (I.again i us x (t.Semicolon s ∷ vs) a refl) (block_again n F one I j vs ys r b)

group_again : {X : Type 0} (n : ℕ) (F : ℕ → List Symbol → X → List Symbol → Type 0) (one : List Symbol → Reply X) → Items n F one → (m : ℕ) (ts : List Symbol) (xs : List X) (rest : List Symbol) → IsGroup F m ts xs rest → Ended rest → Agrees n m xs rest (group_at one ts)
group_again n F one I m ts xs rest (d.single j us x r a) e =
    rw (choose_other is_open_paren us (row is_close_paren one) (single_at one us) (I.no_open j us x r a)) (agrees_bind n j x r n j (x ∷ []) r (one us) (λ z ws. Ok (z ∷ [], ws)) (I.again j us x r a e) (λ h. h) (λ f. (refl, refl, f)))
group_again n F one I m ts xs rest (d.grouped j o us ys r a) e = block_again n F one I j us ys r a

decl_again : {X : Type 0} (n m j : ℕ) (group : List Symbol → Reply (List X)) (more : List Symbol → Reply (List X)) (ts : List Symbol) (xs : List X) (s : ℕ) (us : List Symbol) (ys : List X) (rest : List Symbol) → Agrees n m xs (t.Semicolon s ∷ us) (group ts)
    → Agrees n j ys rest (more us) → Agrees n (max m j) (xs ++ ys) rest (decl_at group more ts)
decl_again n m j group more ts xs s us ys rest h g =
    agrees_bind n m xs (t.Semicolon s ∷ us) n (max m j) (xs ++ ys) rest (group ts) (decl_end more) h (λ e. omega arith)
    (λ f. agrees_bind n j ys rest n (max m j) (xs ++ ys) rest (more us) (λ zs vs. Ok (xs ++ zs, vs)) g (λ e. omega arith) (λ w. (refl, refl, omega arith)))

-- ---- imports

import_not_open : (m : ℕ) (ts : List Symbol) (x : Import) (rest : List Symbol) → IsImport m ts x rest → starts is_open_paren ts ≡ false
import_not_open m ts x rest (d.plainly s r) = refl
import_not_open m ts x rest (d.named_so i s r) = refl

import_not_close : (m : ℕ) (ts : List Symbol) (x : Import) (rest : List Symbol) → IsImport m ts x rest → starts is_close_paren ts ≡ false
import_not_close m ts x rest (d.plainly s r) = refl
import_not_close m ts x rest (d.named_so i s r) = refl

import_items : (n : ℕ) → Items n IsImport import_at
import_items n = record { eats_one = import_eats; again = λ m ts x rest w e. import_again n m ts x rest w; no_open = import_not_open; no_close = import_not_close }

import_opens : (later : List Symbol → Reply (List Import)) (r : List Symbol) → starts is_import r ≡ false → import_step later r ≡ Ok ([], r)
import_opens later [] e = refl
import_opens later (k ∷ r) e = rw e refl

imports_again : (n m : ℕ) (ts : List Symbol) (xs : List Import) (rest : List Symbol) → IsImports m ts xs rest → starts is_import rest ≡ false → Agrees n m xs rest (imports_at ts)
imports_again n m ts xs rest (d.no_import r) e = rw (steps_is import_step import_local r, import_opens imports_at r e) (refl, refl, omega arith)
imports_again n m ts xs rest (d.imports_too i j at s us vs ys zs r a b) e =
    rw (steps_is import_step import_local (t.Import at ∷ us))
    (decl_again n i j (group_at import_at) imports_at us ys s vs zs r (group_again n IsImport import_at (import_items n) i us ys (t.Semicolon s ∷ vs) a refl) (imports_again n j vs zs r b e))

-- ---- declarations

var_not_open : (m : ℕ) (ts : List Symbol) (x : Top) (rest : List Symbol) → IsVarSpec m ts x rest → starts is_open_paren ts ≡ false
var_not_open m ts x rest (d.of_type j us i names vs ty ws r a b w) = names_not_open us (i ∷ names) vs a
var_not_open m ts x rest (d.of_value c us i names vs r a w) = names_not_open us (i ∷ names) (t.Assign c ∷ vs) a

var_not_close : (m : ℕ) (ts : List Symbol) (x : Top) (rest : List Symbol) → IsVarSpec m ts x rest → starts is_close_paren ts ≡ false
var_not_close m ts x rest (d.of_type j us i names vs ty ws r a b w) = names_not_close us (i ∷ names) vs a
var_not_close m ts x rest (d.of_value c us i names vs r a w) = names_not_close us (i ∷ names) (t.Assign c ∷ vs) a

var_items : (n : ℕ) → Items n IsVarSpec (var_spec_at n)
var_items n = record { eats_one = eats_of (Any IsVarSpec) (var_spec_at n) no_var (var_reads n); again = λ m ts x rest w e. var_again n m ts x rest w e; no_open = var_not_open; no_close = var_not_close }

spec_not_open : (m : ℕ) (ts : List Symbol) (x : Top) (rest : List Symbol) → IsTypeSpec m ts x rest → starts is_open_paren ts ≡ false
spec_not_open m ts x rest (d.defines j i us ty r b) = refl
spec_not_open m ts x rest (d.renames j i a us ty r b) = refl
spec_not_open m ts x rest (d.defines_generic k j i a l us ps vs ty r s w b) = refl
spec_not_open m ts x rest (d.renames_generic k j i a l us ps c vs ty r s w b) = refl

spec_not_close : (m : ℕ) (ts : List Symbol) (x : Top) (rest : List Symbol) → IsTypeSpec m ts x rest → starts is_close_paren ts ≡ false
spec_not_close m ts x rest (d.defines j i us ty r b) = refl
spec_not_close m ts x rest (d.renames j i a us ty r b) = refl
spec_not_close m ts x rest (d.defines_generic k j i a l us ps vs ty r s w b) = refl
spec_not_close m ts x rest (d.renames_generic k j i a l us ps c vs ty r s w b) = refl

spec_items : (n : ℕ) → 2 ≤ n → Items n IsTypeSpec (type_spec_at n)
spec_items n two = record { eats_one = eats_of (Any IsTypeSpec) (type_spec_at n) no_spec (spec_reads n two); again = λ m ts x rest w e. spec_again n m ts x rest w (ended_free rest e); no_open = spec_not_open; no_close = spec_not_close }

const_items : (n : ℕ) → Items n IsConstSpec (const_spec_at n)
const_items n = record {
  eats_one = eats_of (Any IsConstSpec) (const_spec_at n) no_const (const_reads n);
  again = λ m ts x rest w e. const_again n m ts x rest w e;
  no_open = const_not_open;
  no_close = const_not_close;
}

consts_again : (n m : ℕ) (ts : List Symbol) (ws : List Written) (rest : List Symbol) → IsGroup IsConstSpec m ts ws rest → Ended rest → Agrees n m (counted 0 0 ws) rest (const_group_at n ts)
consts_again n m ts ws rest a e =
    agrees_bind n m ws rest n m (counted 0 0 ws) rest (group_at (const_spec_at n) ts) (λ zs vs. Ok (counted 0 0 zs, vs)) (group_again n IsConstSpec (const_spec_at n) (const_items n) m ts ws rest a e) (λ h. h) (λ f. (refl, refl, f))

func_alone : (n m : ℕ) (ts : List Symbol) (f : FuncDecl) (s : ℕ) (us : List Symbol) → IsFunc m ts f (t.Semicolon s ∷ us) → Agrees n m (top.Func f ∷ []) (t.Semicolon s ∷ us) (func_group_at n ts)
func_alone n m ts f s us a =
    agrees_bind n m f (t.Semicolon s ∷ us) n m (top.Func f ∷ []) (t.Semicolon s ∷ us) (func_at n ts) (λ z vs. Ok (top.Func z ∷ [], vs)) (func_again n m ts f (t.Semicolon s ∷ us) a refl refl) (λ h. h) (λ e. (refl, refl, e))

-- no declaration begins here
pub record Stopped (rest : List Symbol) : Type 0 where
  pub no_var_word : starts is_var rest ≡ false
  pub no_type_word : starts is_type rest ≡ false
  pub no_const_word : starts is_const rest ≡ false
  pub no_func_word : starts is_func rest ≡ false

top_opens : (n : ℕ) (later : List Symbol → Reply (List Top)) (r : List Symbol) → Stopped r → top_step n later r ≡ Ok ([], r)
top_opens n later [] S = refl
top_opens n later (k ∷ r) S = rw (S.no_var_word, S.no_type_word, S.no_const_word, S.no_func_word) refl

tops_again : (n m : ℕ) → 2 ≤ n → (ts : List Symbol) (xs : List Top) (rest : List Symbol) → IsTops m ts xs rest → Stopped rest → Agrees n m xs rest (tops_at n ts)
tops_again n m two ts xs rest (d.no_top r) S = rw (steps_is (top_step n) (top_local n two) r, top_opens n (tops_at n) r S) (refl, refl, omega arith)
tops_again n m two ts xs rest (d.vars_too i j at s us vs ys zs r a b) S =
    rw (steps_is (top_step n) (top_local n two) (t.Var at ∷ us))
    (decl_again n i j (group_at (var_spec_at n)) (tops_at n) us ys s vs zs r (group_again n IsVarSpec (var_spec_at n) (var_items n) i us ys (t.Semicolon s ∷ vs) a refl) (tops_again n j two vs zs r b S))
tops_again n m two ts xs rest (d.types_too i j at s us vs ys zs r a b) S =
    rw (steps_is (top_step n) (top_local n two) (t.Type at ∷ us))
    (decl_again n i j (group_at (type_spec_at n)) (tops_at n) us ys s vs zs r (group_again n IsTypeSpec (type_spec_at n) (spec_items n two) i us ys (t.Semicolon s ∷ vs) a refl) (tops_again n j two vs zs r b S))
tops_again n m two ts xs rest (d.consts_too i j at s us vs ws zs r a b) S =
    rw (steps_is (top_step n) (top_local n two) (t.Const at ∷ us))
    (decl_again n i j (const_group_at n) (tops_at n) us (counted 0 0 ws) s vs zs r (consts_again n i us ws (t.Semicolon s ∷ vs) a refl) (tops_again n j two vs zs r b S))
tops_again n m two ts xs rest (d.func_too i j at s us vs f zs r a b) S =
    rw (steps_is (top_step n) (top_local n two) (t.Func at ∷ us))
    (decl_again n i j (func_group_at n) (tops_at n) us (top.Func f ∷ []) s vs zs r (func_alone n i us f s vs a) (tops_again n j two vs zs r b S))

tops_no_import : (m : ℕ) (ts : List Symbol) (xs : List Top) (rest : List Symbol) → IsTops m ts xs rest → starts is_import rest ≡ false → starts is_import ts ≡ false
tops_no_import m ts xs rest (d.no_top r) e = e
tops_no_import m ts xs rest (d.vars_too i j at s us vs ys zs r a b) e = refl
tops_no_import m ts xs rest (d.types_too i j at s us vs ys zs r a b) e = refl
tops_no_import m ts xs rest (d.consts_too i j at s us vs ws zs r a b) e = refl
tops_no_import m ts xs rest (d.func_too i j at s us vs f zs r a b) e = refl

-- ---- files

after_clause : (n m j : ℕ) (i : Ident) (ts us : List Symbol) (imports : List Import) (tops : List Top) (rest : List Symbol) → Agrees n m imports us (imports_at ts) → Agrees n j tops rest (tops_at n us)
    → Agrees n (max m j) (source_file i imports tops) rest (file_imports n i ts)
after_clause n m j i ts us imports tops rest h g =
    agrees_bind n m imports us n (max m j) (source_file i imports tops) rest (imports_at ts) (file_tops n i) h (λ e. omega arith)
    (λ f. agrees_bind n j tops rest n (max m j) (source_file i imports tops) rest (tops_at n us) (λ zs vs. Ok (source_file i imports zs, vs)) g (λ e. omega arith) (λ w. (refl, refl, omega arith)))

pub file_again : (n m : ℕ) → 2 ≤ n → (ts : List Symbol) (f : SourceFile) (rest : List Symbol) → IsFileOf m ts f rest → starts is_import rest ≡ false → Stopped rest → Agrees n m f rest (file_front n ts)
unfolding file_front
file_again n m two ts f rest (d.file i j at x s us vs imports tops r a b) e S =
    after_clause n i j x us vs imports tops r (imports_again n i us imports vs a (tops_no_import j vs tops r b e)) (tops_again n j two vs tops r b S)
