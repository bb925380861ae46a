-- A file whose tokens stand in a source stands there.
use Rattle.std.proofs.Common.{◌≡◌, ◌<◌, ◌≤◌, ◌+◌, ◌-◌, ℕ, zero, suc, nat_le, Bool, true, false, List, [], ◌∷◌, ◌++◌, length, Some, slice_get, refl, sym, ap, subst, ◌∙◌, arith}
use Rattle.std.proofs.lemmas.Option.{slice_get_within}
use Rattle.std.proofs.lemmas.Bool.{leb-true, leb-false}
use Rattle.go_expr_syntax.specs.declared.symbols.Ident.{Ident}
use Rattle.go_expr_syntax.specs.declared.symbols.Symbol.{Symbol}
use Rattle.go_expr_syntax.specs.declared.symbols.Symbol.TheVariants as t
use Rattle.go_expr_syntax.specs.declared.tree.Expr.{Expr}
use Rattle.go_expr_syntax.specs.StandingExprs.{IdentsStand, SymbolsStand}
use Rattle.go_expr_syntax.proofs.StandingLaws.{ident_place, literal_place, names_stand, expr_stands}
use Rattle.go_type_syntax.proofs.StandingTypeLaws.{type_in, union_in, sig_in, tree_of, left_of}
use Rattle.go_syntax.specs.declared.constants.Written.{Written}
use Rattle.go_syntax.specs.declared.tree.ConstSpec.{ConstSpec}
use Rattle.go_syntax.specs.declared.tree.FuncDecl.{FuncDecl}
use Rattle.go_syntax.specs.declared.tree.Import.{Import}
use Rattle.go_syntax.specs.declared.tree.Receiver.{Receiver}
use Rattle.go_syntax.specs.declared.tree.SourceFile.{SourceFile}
use Rattle.go_syntax.specs.declared.tree.Top.{Top}
use Rattle.go_syntax.specs.declared.tree.Top.TheVariants as top
use Rattle.go_syntax.specs.declared.tree.TParam.{TParam}
use Rattle.go_syntax.specs.Skipped as s
use Rattle.go_syntax.specs.Skipped.{IsSkipped}
use Rattle.go_syntax.specs.Generics as g
use Rattle.go_syntax.specs.Generics.{IsTParam, IsTParams, IsGeneric}
use Rattle.go_syntax.specs.Functions as f
use Rattle.go_syntax.specs.Functions.{IsIdents, IsArgs, IsReceiverEnd, IsReceiver, IsBody, IsFunc}
use Rattle.go_syntax.specs.Constants as c
use Rattle.go_syntax.specs.Constants.{IsExprs, IsConstSpec, source_of, constants, counted}
use Rattle.go_syntax.specs.Decls as d
use Rattle.go_syntax.specs.Decls.{IsImport, IsValue, IsVarSpec, IsTypeSpec, IsBlock, IsGroup, IsImports, IsTops, IsFileOf}
use Rattle.go_syntax.specs.StandingFiles.{Each, NamesStand, TypeIfAny, ValueStands, ImportStands, TParamStands, ReceiverStands, HasValuesOf, TopStands, FuncStands, IsRepeated, AreRepeated, FileStands}

pub each_append : {X : Type 0} (P : X → Type 0) (xs ys : List X) → Each P xs → Each P ys → Each P (xs ++ ys)
each_append P [] ys h k = k
each_append P (x ∷ xs) ys h k = (h.0, each_append P xs ys h.1 k)

-- ---- skipped text

skipped_left : (src : List ℕ) (line : Bool) (ts rest : List Symbol) → IsSkipped line ts rest → SymbolsStand src ts → SymbolsStand src rest
skipped_left src line ts rest (s.nothing l r) h = h
skipped_left src line ts rest (s.token l k us r o e i w) h = skipped_left src l us r w h.1
skipped_left src line ts rest (s.within l b o k us vs r e i w v) h = skipped_left src l vs r v (skipped_left src false us (k ∷ vs) w h.1).1

-- ---- type parameters

tparam_in : (src : List ℕ) (m : ℕ) (ts : List Symbol) (x : TParam) (rest : List Symbol) → IsTParam m ts x rest → SymbolsStand src ts → TParamStands src x × SymbolsStand src rest
tparam_in src m ts x rest (g.constrained n us i names vs ty r a w) h =
    let o = names_stand src us (i ∷ names) vs a h in
    let q = union_in src n vs ty r w o.1 in
    ((o.0, tree_of q, ident_place src i o.0.0), left_of q)

tparams_in : (src : List ℕ) (m : ℕ) (ts : List Symbol) (xs : List TParam) (rest : List Symbol) → IsTParams m ts xs rest → SymbolsStand src ts → Each (TParamStands src) xs × SymbolsStand src rest
tparams_in src m ts xs rest (g.no_tparam c r) h = (tt, h.1)
tparams_in src m ts xs rest (g.last_tparam n c us z r w) h = let q = tparam_in src n us z (t.CloseBracket c ∷ r) w h in ((q.0, tt), q.1.1)
tparams_in src m ts xs rest (g.more_tparams j n s' us vs z zs r w v) h =
    let q = tparam_in src j us z (t.Comma s' ∷ vs) w h in
    let o = tparams_in src n vs zs r v q.1.1 in
    ((q.0, o.0), o.1)

generic_in : (src : List ℕ) (m : ℕ) (ts : List Symbol) (xs : List TParam) (rest : List Symbol) → IsGeneric m ts xs rest → SymbolsStand src ts → Each (TParamStands src) xs × SymbolsStand src rest
generic_in src m ts xs rest (g.plain r) h = (tt, h)
generic_in src m ts xs rest (g.with_params n o us zs r e w) h = tparams_in src n us zs r w h.1

-- ---- functions

idents_in : (src : List ℕ) (ts : List Symbol) (names : List Ident) (rest : List Symbol) → IsIdents ts names rest → SymbolsStand src ts → IdentsStand src names × SymbolsStand src rest
idents_in src ts names rest (f.no_ident c r) h = (tt, h.1)
idents_in src ts names rest (f.last_ident i c r) h = ((h.0, tt), h.1.1)
idents_in src ts names rest (f.more_idents i s' us js r w) h = let o = idents_in src us js r w h.1.1 in ((h.0, o.0), o.1)

args_in : (src : List ℕ) (ts : List Symbol) (names : List Ident) (rest : List Symbol) → IsArgs ts names rest → SymbolsStand src ts → IdentsStand src names × SymbolsStand src rest
args_in src ts names rest (f.no_args r) h = (tt, h)
args_in src ts names rest (f.some_args o us js r e w) h = idents_in src us js r w h.1

end_left : (src : List ℕ) (ts rest : List Symbol) → IsReceiverEnd ts rest → SymbolsStand src ts → SymbolsStand src rest
end_left src ts rest (f.closes c r) h = h.1
end_left src ts rest (f.closes_late s' c r) h = h.1.1

receiver_in : (src : List ℕ) (ts : List Symbol) (x : Receiver) (rest : List Symbol) → IsReceiver ts x rest → SymbolsStand src ts → ReceiverStands src x × SymbolsStand src rest
receiver_in src ts x rest (f.by_value base us args vs r a e) h = let o = args_in src us args vs a h.1 in ((tt, h.0, o.0, ident_place src base h.0), end_left src vs r e o.1)
receiver_in src ts x rest (f.by_pointer p base us args vs r a e) h = let o = args_in src us args vs a h.1.1 in ((tt, h.1.0, o.0, h.0), end_left src vs r e o.1)
receiver_in src ts x rest (f.named_value i base us args vs r a e) h = let o = args_in src us args vs a h.1.1 in ((h.0, h.1.0, o.0, ident_place src i h.0), end_left src vs r e o.1)
receiver_in src ts x rest (f.named_pointer i p base us args vs r a e) h = let o = args_in src us args vs a h.1.1.1 in ((h.0, h.1.1.0, o.0, ident_place src i h.0), end_left src vs r e o.1)

body_left : (src : List ℕ) (ts rest : List Symbol) → IsBody ts rest → SymbolsStand src ts → SymbolsStand src rest
body_left src ts rest (f.no_body r) h = h
body_left src ts rest (f.body o c us r w) h = (skipped_left src false us (t.CloseBrace c ∷ r) w h.1).1

func_in : (src : List ℕ) (m : ℕ) (ts : List Symbol) (x : FuncDecl) (rest : List Symbol) → IsFunc m ts x rest → SymbolsStand src ts → FuncStands src x × SymbolsStand src rest
func_in src m ts x rest (f.plain_func j n i us ps vs ws sig r a w b) h =
    let o = generic_in src j us ps vs a h.1 in
    let q = sig_in src n vs sig ws w o.1 in
    ((tt, h.0, o.0, tree_of q), body_left src ws r b (left_of q))
func_in src m ts x rest (f.method_func n o us y i vs ws sig r a w b) h =
    let p = receiver_in src us y (t.Ident i ∷ vs) a h.1 in
    let q = sig_in src n vs sig ws w p.1.1 in
    ((p.0, p.1.0, tt, tree_of q), body_left src ws r b (left_of q))

-- ---- constants

exprs_in : (src : List ℕ) (m : ℕ) (ts : List Symbol) (xs : List Expr) (rest : List Symbol) → IsExprs m ts xs rest → SymbolsStand src ts → Each (ValueStands src) xs × SymbolsStand src rest
exprs_in src m ts xs rest (c.one_expr n us x r w) h = let q = expr_stands src 5 n us x r w h in ((q.0, tt), q.1)
exprs_in src m ts xs rest (c.more_exprs j n k us x vs zs r w v) h =
    let q = expr_stands src 5 j us x (t.Comma k ∷ vs) w h in
    let o = exprs_in src n vs zs r v q.1.1 in
    ((q.0, o.0), o.1)

abbrev WrittenStands : List ℕ → Written → Type 0
WrittenStands src w = NamesStand src w.names × TypeIfAny src w.ty × Each (ValueStands src) w.values

const_in : (src : List ℕ) (m : ℕ) (ts : List Symbol) (x : Written) (rest : List Symbol) → IsConstSpec m ts x rest → SymbolsStand src ts → WrittenStands src x × SymbolsStand src rest
const_in src m ts x rest (c.as_before us i names r a) h = let o = names_stand src us (i ∷ names) r a h in ((o.0, tt, tt), o.1)
const_in src m ts x rest (c.untyped n a us i names vs values r w v) h =
    let o = names_stand src us (i ∷ names) (t.Assign a ∷ vs) w h in
    let q = exprs_in src n vs values r v o.1.1 in
    ((o.0, tt, q.0), q.1)
const_in src m ts x rest (c.typed j n a us i names vs ty ws values r w v u) h =
    let o = names_stand src us (i ∷ names) vs w h in
    let p = type_in src j vs ty (t.Assign a ∷ ws) v o.1 in
    let q = exprs_in src n ws values r u (left_of p).1 in
    ((o.0, tree_of p, q.0), q.1)

has_values : (values : List Expr) (iota last : ℕ) → last ≤ iota → HasValuesOf values iota (source_of values iota last)
has_values [] iota last le = le
has_values (x ∷ xs) iota last le = refl

source_small : (values : List Expr) (iota last : ℕ) → last ≤ iota → source_of values iota last ≤ suc iota
source_small [] iota last le = omega (arith, le)
source_small (x ∷ xs) iota last le = omega arith

counted_stand : (src : List ℕ) (ws : List Written) (iota last : ℕ) → last ≤ iota → Each (WrittenStands src) ws → Each (TopStands src) (counted iota last ws)
counted_stand src [] iota last le h = tt
counted_stand src (w ∷ ws) iota last le h =
    ((h.0.0, h.0.1, h.0.2, has_values w.values iota last le), counted_stand src ws (suc iota) (source_of w.values iota last) (source_small w.values iota last le) h.1)

-- ---- specifications

import_in : (src : List ℕ) (m : ℕ) (ts : List Symbol) (x : Import) (rest : List Symbol) → IsImport m ts x rest → SymbolsStand src ts → ImportStands src x × SymbolsStand src rest
import_in src m ts x rest (d.plainly q r) h = ((tt, literal_place src q.0 h.0.0), h.1)
import_in src m ts x rest (d.named_so i q r) h = ((h.0, literal_place src q.0 h.1.0.0), h.1.1)

value_left : (src : List ℕ) (ts rest : List Symbol) → IsValue ts rest → SymbolsStand src ts → SymbolsStand src rest
value_left src ts rest (d.no_value r) h = h
value_left src ts rest (d.value a us r w) h = skipped_left src true us r w h.1

-- a declaration that is none of constants
abbrev is_constant : Top → Bool
is_constant (top.Constant c) = true
is_constant _ = false

abbrev OtherStands : List ℕ → Top → Type 0
OtherStands src x = TopStands src x × (is_constant x ≡ false)

vars_in : (src : List ℕ) (m : ℕ) (ts : List Symbol) (x : Top) (rest : List Symbol) → IsVarSpec m ts x rest → SymbolsStand src ts → OtherStands src x × SymbolsStand src rest
vars_in src m ts x rest (d.of_type n us i names vs ty ws r a w v) h =
    let o = names_stand src us (i ∷ names) vs a h in
    let q = type_in src n vs ty ws w o.1 in
    (((o.0, tree_of q), refl), value_left src ws r v (left_of q))
vars_in src m ts x rest (d.of_value a us i names vs r w v) h =
    let o = names_stand src us (i ∷ names) (t.Assign a ∷ vs) w h in
    (((o.0, tt), refl), skipped_left src true vs r v o.1.1)

types_in : (src : List ℕ) (m : ℕ) (ts : List Symbol) (x : Top) (rest : List Symbol) → IsTypeSpec m ts x rest → SymbolsStand src ts → OtherStands src x × SymbolsStand src rest
types_in src m ts x rest (d.defines n i us ty r w) h = let q = type_in src n us ty r w h.1 in (((h.0, tt, tree_of q), refl), left_of q)
types_in src m ts x rest (d.renames n i a us ty r w) h = let q = type_in src n us ty r w h.1.1 in (((h.0, tt, tree_of q), refl), left_of q)
types_in src m ts x rest (d.defines_generic j n i a k us ps vs ty r e w v) h =
    let o = tparams_in src j (t.Ident k ∷ us) ps vs w h.1.1 in
    let q = type_in src n vs ty r v o.1 in
    (((h.0, o.0, tree_of q), refl), left_of q)
types_in src m ts x rest (d.renames_generic j n i a k us ps e' vs ty r e w v) h =
    let o = tparams_in src j (t.Ident k ∷ us) ps (t.Assign e' ∷ vs) w h.1.1 in
    let q = type_in src n vs ty r v o.1.1 in
    (((h.0, o.0, tree_of q), refl), left_of q)

-- ---- groups

module _ {X : Type 0} (src : List ℕ) (F : ℕ → List Symbol → X → List Symbol → Type 0) (P : X → Type 0) (one : (m : ℕ) (ts : List Symbol) (x : X) (rest : List Symbol) → F m ts x rest → SymbolsStand src ts → P x × SymbolsStand src rest) where
  block_in : (m : ℕ) (ts : List Symbol) (xs : List X) (rest : List Symbol) → IsBlock F m ts xs rest → SymbolsStand src ts → Each P xs × SymbolsStand src rest
  block_in m ts xs rest (d.none_in_block c r) h = (tt, h.1)
  block_in m ts xs rest (d.last_in_block n c us z r w) h = let q = one n us z (t.CloseParen c ∷ r) w h in ((q.0, tt), q.1.1)
  block_in m ts xs rest (d.more_in_block j n s' us vs z zs r w v) h =
      let q = one j us z (t.Semicolon s' ∷ vs) w h in
      let o = block_in n vs zs r v q.1.1 in
      ((q.0, o.0), o.1)

  group_in : (m : ℕ) (ts : List Symbol) (xs : List X) (rest : List Symbol) → IsGroup F m ts xs rest → SymbolsStand src ts → Each P xs × SymbolsStand src rest
  group_in m ts xs rest (d.single n us z r w) h = let q = one n us z r w h in ((q.0, tt), q.1)
  group_in m ts xs rest (d.grouped n o us zs r w) h = block_in n us zs r w h.1

-- ---- what constants repeat

get_first : {X : Type 0} (xs ys : List X) (k : ℕ) → k < length xs → slice_get (xs ++ ys) k ≡ slice_get xs k
get_first [] ys k less = absurd (omega (arith, less))
get_first (x ∷ xs) ys zero less = refl
get_first (x ∷ xs) ys (suc k) less = get_first xs ys k (omega (arith, less))

get_later : {X : Type 0} (xs ys : List X) (k : ℕ) → slice_get (xs ++ ys) (length xs + k) ≡ slice_get ys k
get_later [] ys k = let e : 0 + k ≡ k = omega arith in ap (slice_get ys) e
get_later (x ∷ xs) ys k = let e : suc (length xs) + k ≡ suc (length xs + k) = omega arith in ap (slice_get (x ∷ (xs ++ ys))) e ∙ get_later xs ys k

-- those among the first
in_first : (xs ys : List Top) (k : ℕ) (c : ConstSpec) → IsRepeated xs k c → IsRepeated (xs ++ ys) k c
in_first xs ys k c h = record {
  found = h.found;
  back = h.back;
  stands = get_first xs ys (k - (c.iota - c.source)) (slice_get_within xs (k - (c.iota - c.source)) (top.Constant h.found) h.stands) ∙ h.stands;
  number = h.number;
  own = h.own;
}

in_later : (xs ys : List Top) (k : ℕ) (c : ConstSpec) → IsRepeated ys k c → IsRepeated (xs ++ ys) (length xs + k) c
in_later xs ys k c h =
    let le : c.iota - c.source ≤ k = h.back in
    let same : (length xs + k) - (c.iota - c.source) ≡ length xs + (k - (c.iota - c.source)) = omega (arith, le) in
    record {
      found = h.found;
      back = omega (arith, le);
      stands = ap (slice_get (xs ++ ys)) same ∙ get_later xs ys (k - (c.iota - c.source)) ∙ h.stands;
      number = h.number;
      own = h.own;
    }

repeated_so : (xs ys : List Top) → AreRepeated xs → AreRepeated ys → (k : ℕ) (c : ConstSpec) → slice_get (xs ++ ys) k ≡ Some (top.Constant c) → (b : Bool) → nat_le (length xs) k ≡ b → IsRepeated (xs ++ ys) k c
repeated_so xs ys h g k c e false l =
    let less : k < length xs = leb-false (length xs) k l in
    in_first xs ys k c (h k c (sym (get_first xs ys k less) ∙ e))
repeated_so xs ys h g k c e true l =
    let le : length xs ≤ k = leb-true (length xs) k l in
    let same : length xs + (k - length xs) ≡ k = omega (arith, le) in
    subst (λ n. IsRepeated (xs ++ ys) n c) same (in_later xs ys (k - length xs) c (g (k - length xs) c (sym (get_later xs ys (k - length xs)) ∙ ap (slice_get (xs ++ ys)) same ∙ e)))

repeated_append : (xs ys : List Top) → AreRepeated xs → AreRepeated ys → AreRepeated (xs ++ ys)
repeated_append xs ys h g = λ k c e. repeated_so xs ys h g k c e (nat_le (length xs) k) refl

none_repeated : (src : List ℕ) (xs : List Top) → Each (OtherStands src) xs → AreRepeated xs
none_repeated src xs h = λ k c e. absurd (no_constant xs h k c e)
  where
    no_constant : (ys : List Top) → Each (OtherStands src) ys → (k : ℕ) (c : ConstSpec) → slice_get ys k ≡ Some (top.Constant c) → ⊥
    no_constant [] g k c e = absurd cc
    no_constant (y ∷ ys) g zero c e = let same : y ≡ top.Constant c = cc in let f : is_constant (top.Constant c) ≡ false = subst (λ x. is_constant x ≡ false) same g.0.1 in absurd cc
    no_constant (y ∷ ys) g (suc k) c e = no_constant ys g.1 k c e

-- The constants of this number in a list that is counted from iota on: they have the values of the last specification
-- before the list, or of one in it.
data Repeats (iota last : ℕ) (tops : List Top) (c : ConstSpec) : Type 0 where
  before : c.source ≡ last → Repeats iota last tops c
  inside : (found : ConstSpec) → iota ≤ c.source → slice_get tops (c.source - iota) ≡ Some (top.Constant found) → found.iota ≡ c.source → found.source ≡ c.source → Repeats iota last tops c

record Numbered (iota last : ℕ) (tops : List Top) (k : ℕ) (c : ConstSpec) : Type 0 where
  number : c.iota ≡ iota + k
  small : c.source ≤ c.iota
  repeats : Repeats iota last tops c

first_so : (values : List Expr) (w : Written) (iota last : ℕ) (tops : List Top) (c : ConstSpec) → last ≤ iota → c ≡ record { names = w.names; ty = w.ty; values = w.values; iota = iota; source = source_of values iota last }
    → Repeats iota last (top.Constant c ∷ tops) c
first_so [] w iota last tops c le e = before (ap (λ (x : ConstSpec). x.source) e)
first_so (v ∷ vs) w iota last tops c le e =
    let same : c.source ≡ iota = ap (λ (x : ConstSpec). x.source) e in
    let number : c.iota ≡ iota = ap (λ (x : ConstSpec). x.iota) e in
    let none : c.source - iota ≡ 0 = omega (arith, same) in
    inside c (omega (arith, same)) (ap (slice_get (top.Constant c ∷ tops)) none) (number ∙ sym same) refl

later_so : (values : List Expr) (iota last : ℕ) (x : Top) (tops : List Top) (c : ConstSpec) (k : ℕ) → last ≤ iota → Repeats (suc iota) (source_of values iota last) tops c
    → ((v : Expr) (vs : List Expr) → values ≡ v ∷ vs → (found : ConstSpec) × (x ≡ top.Constant found) × (found.iota ≡ iota) × (found.source ≡ iota)) → Repeats iota last (x ∷ tops) c
later_so [] iota last x tops c k le (before e) own = before e
later_so (v ∷ vs) iota last x tops c k le (before e) own =
    let o = own v vs refl in
    let none : c.source - iota ≡ 0 = omega (arith, e) in
    inside o.0 (omega (arith, e)) (ap (slice_get (x ∷ tops)) none ∙ ap Some o.1) (o.2 ∙ sym e) (o.3 ∙ sym e)
later_so values iota last x tops c k le (inside found l e n s') own =
    let more : c.source - iota ≡ suc (c.source - suc iota) = omega (arith, l) in
    inside found (omega (arith, l)) (ap (slice_get (x ∷ tops)) more ∙ e) n s'

last_small : (values : List Expr) (iota last : ℕ) → last ≤ iota → source_of values iota last ≤ iota
last_small [] iota last le = le
last_small (x ∷ xs) iota last le = omega arith

own_source : (w : Written) (iota last : ℕ) (v : Expr) (vs : List Expr) → w.values ≡ v ∷ vs → (found : ConstSpec) × (constants w iota (source_of w.values iota last) ≡ top.Constant found) × (found.iota ≡ iota) × (found.source ≡ iota)
own_source w iota last v vs e = (record { names = w.names; ty = w.ty; values = w.values; iota = iota; source = source_of w.values iota last }, refl, refl, ap (λ (xs : List Expr). source_of xs iota last) e)

numbered : (ws : List Written) (iota last : ℕ) → last ≤ iota → (k : ℕ) (c : ConstSpec) → slice_get (counted iota last ws) k ≡ Some (top.Constant c) → Numbered iota last (counted iota last ws) k c
numbered [] iota last le k c e = absurd cc
numbered (w ∷ ws) iota last le zero c e =
    let same : c ≡ record { names = w.names; ty = w.ty; values = w.values; iota = iota; source = source_of w.values iota last } = cc in
    let number : c.iota ≡ iota = ap (λ (x : ConstSpec). x.iota) same in
    let source : c.source ≡ source_of w.values iota last = ap (λ (x : ConstSpec). x.source) same in
    let small = last_small w.values iota last le in
    record {
      number = omega (arith, number);
      small = omega (arith, number, source, small);
      repeats = subst (λ x. Repeats iota last (top.Constant x ∷ counted (suc iota) (source_of w.values iota last) ws) c) same (first_so w.values w iota last (counted (suc iota) (source_of w.values iota last) ws) c le same);
    }
numbered (w ∷ ws) iota last le (suc k) c e =
    let h = numbered ws (suc iota) (source_of w.values iota last) (source_small w.values iota last le) k c e in
    let number : c.iota ≡ suc iota + k = h.number in
    record {
      number = omega (arith, number);
      small = h.small;
      repeats = later_so w.values iota last (constants w iota (source_of w.values iota last)) (counted (suc iota) (source_of w.values iota last) ws) c k le h.repeats (own_source w iota last);
    }

source_first : (values : List Expr) → source_of values 0 0 ≡ 0
source_first [] = refl
source_first (x ∷ xs) = refl

repeated_if : (ws : List Written) (k : ℕ) (c : ConstSpec) → slice_get (counted 0 0 ws) k ≡ Some (top.Constant c) → c.iota ≡ 0 + k → c.source ≤ c.iota → Repeats 0 0 (counted 0 0 ws) c → IsRepeated (counted 0 0 ws) k c
repeated_if [] k c e n l r = absurd cc
repeated_if (w ∷ ws) k c e n l (before z) =
    let back : k - (c.iota - c.source) ≡ 0 = omega (arith, n, z) in
    record {
      found = record { names = w.names; ty = w.ty; values = w.values; iota = 0; source = source_of w.values 0 0 };
      back = omega (arith, n);
      stands = ap (slice_get (counted 0 0 (w ∷ ws))) back;
      number = sym z;
      own = source_first w.values ∙ sym z;
    }
repeated_if (w ∷ ws) k c e n l (inside found g s' i o) =
    let back : k - (c.iota - c.source) ≡ c.source - 0 = omega (arith, n, l) in
    record { found = found; back = omega (arith, n); stands = ap (slice_get (counted 0 0 (w ∷ ws))) back ∙ s'; number = i; own = o }

counted_repeated : (ws : List Written) → AreRepeated (counted 0 0 ws)
counted_repeated ws = λ k c e. let h = numbered ws 0 0 (omega arith) k c e in repeated_if ws k c e h.number h.small h.repeats

-- ---- declarations and files

imports_in : (src : List ℕ) (m : ℕ) (ts : List Symbol) (xs : List Import) (rest : List Symbol) → IsImports m ts xs rest → SymbolsStand src ts → Each (ImportStands src) xs × SymbolsStand src rest
imports_in src m ts xs rest (d.no_import r) h = (tt, h)
imports_in src m ts xs rest (d.imports_too j n at s' us vs ys zs r w v) h =
    let q = group_in src IsImport (ImportStands src) (import_in src) j us ys (t.Semicolon s' ∷ vs) w h.1 in
    let o = imports_in src n vs zs r v q.1.1 in
    (each_append (ImportStands src) ys zs q.0 o.0, o.1)

record TopsIn (src : List ℕ) (xs : List Top) (rest : List Symbol) : Type 0 where
  stand : Each (TopStands src) xs
  repeated : AreRepeated xs
  left : SymbolsStand src rest

others_stand : (src : List ℕ) (xs : List Top) → Each (OtherStands src) xs → Each (TopStands src) xs
others_stand src [] h = tt
others_stand src (x ∷ xs) h = (h.0.0, others_stand src xs h.1)

joined_in : (src : List ℕ) (xs ys : List Top) (rest : List Symbol) → Each (TopStands src) xs → AreRepeated xs → TopsIn src ys rest → TopsIn src (xs ++ ys) rest
joined_in src xs ys rest h r o = record { stand = each_append (TopStands src) xs ys h o.stand; repeated = repeated_append xs ys r o.repeated; left = o.left }

tops_in : (src : List ℕ) (m : ℕ) (ts : List Symbol) (xs : List Top) (rest : List Symbol) → IsTops m ts xs rest → SymbolsStand src ts → TopsIn src xs rest
tops_in src m ts xs rest (d.no_top r) h = record { stand = tt; repeated = none_repeated src [] tt; left = h }
tops_in src m ts xs rest (d.vars_too j n at s' us vs ys zs r w v) h =
    let q = group_in src IsVarSpec (OtherStands src) (vars_in src) j us ys (t.Semicolon s' ∷ vs) w h.1 in
    joined_in src ys zs r (others_stand src ys q.0) (none_repeated src ys q.0) (tops_in src n vs zs r v q.1.1)
tops_in src m ts xs rest (d.types_too j n at s' us vs ys zs r w v) h =
    let q = group_in src IsTypeSpec (OtherStands src) (types_in src) j us ys (t.Semicolon s' ∷ vs) w h.1 in
    joined_in src ys zs r (others_stand src ys q.0) (none_repeated src ys q.0) (tops_in src n vs zs r v q.1.1)
tops_in src m ts xs rest (d.consts_too j n at s' us vs ws zs r w v) h =
    let q = group_in src IsConstSpec (WrittenStands src) (const_in src) j us ws (t.Semicolon s' ∷ vs) w h.1 in
    joined_in src (counted 0 0 ws) zs r (counted_stand src ws 0 0 (omega arith) q.0) (counted_repeated ws) (tops_in src n vs zs r v q.1.1)
tops_in src m ts xs rest (d.func_too j n at s' us vs y zs r w v) h =
    let q = func_in src j us y (t.Semicolon s' ∷ vs) w h.1 in
    joined_in src (top.Func y ∷ []) zs r (q.0, tt) (none_repeated src (top.Func y ∷ []) ((q.0, refl), tt)) (tops_in src n vs zs r v q.1.1)

pub file_stands : (src : List ℕ) (m : ℕ) (ts : List Symbol) (x : SourceFile) (rest : List Symbol) → IsFileOf m ts x rest → SymbolsStand src ts → FileStands src x
file_stands src m ts x rest (d.file j n at i s' us vs imports tops r w v) h =
    let q = imports_in src j us imports vs w h.1.1.1 in
    let o = tops_in src n vs tops r v q.1 in
    record { name = h.1.0; imports = q.0; tops = o.stand; repeated = o.repeated }
