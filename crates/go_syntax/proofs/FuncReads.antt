-- What the readers of declarations of functions do.
use Rattle.std.proofs.Common.{◌≡◌, ℕ, max, Bool, true, false, List, [], ◌∷◌, ◌++◌, Option, Some, None, Ok, refl, sym, subst}
use Rattle.go_expr_syntax.specs.declared.symbols.Symbol.{Symbol}
use Rattle.go_expr_syntax.specs.declared.symbols.Symbol.TheVariants as t
use Rattle.go_expr_syntax.specs.declared.symbols.Ident.{Ident}
use Rattle.go_syntax.specs.declared.tree.Receiver.{Receiver}
use Rattle.go_syntax.specs.declared.tree.FuncDecl.{FuncDecl}
use Rattle.go_type_syntax.specs.declared.tree.SigExpr.{SigExpr}
use Rattle.go_syntax.specs.declared.tree.TParam.{TParam}
use Rattle.go_expr_syntax.specs.Reading.{Reply, starts, is_comma, is_close_paren, is_open_paren, is_open_bracket, is_close_bracket, is_open_brace, is_close_brace, series_end, series}
use Rattle.go_expr_syntax.specs.Names.{ident_at}
use Rattle.go_type_syntax.specs.Grammar.{IsSig}
use Rattle.go_type_syntax.specs.Params.{sig_at}
use Rattle.go_type_syntax.specs.Types.{type_at}
use Rattle.go_syntax.specs.Skipped.{skip}
use Rattle.go_syntax.specs.Generics as g
use Rattle.go_syntax.specs.Generics.{generic_at}
use Rattle.go_syntax.specs.Functions as f
use Rattle.go_syntax.specs.Functions.{receiver, function, IsIdents, IsArgs, IsReceiverEnd, IsReceiver, IsBody, IsFunc, idents, idents_at, args_at, receiver_close, receiver_end, receiver_base, receiver_pointer, receiver_first, receiver_at, body_close, body_by, body_at, func_sig, method_name, method_by, func_generic, func_name, func_at}
use Rattle.go_expr_syntax.proofs.Viable.{next_is, ends_so, refuse_next, refuse_end, ReadsAt, Sample, Behind, Past, After, done_reads, like_reads, as_reads, cons_reads, past_reads, choose_reads, bind_reads}
use Rattle.go_expr_syntax.proofs.Marks.{comma, close_paren, open_paren, open_bracket, close_bracket, open_brace, close_brace}
use Rattle.go_expr_syntax.proofs.NameReads.{IsIdent, any_ident, ident_reads}
use Rattle.go_type_syntax.proofs.Standing.{SigAt}
use Rattle.go_type_syntax.proofs.ParamReads.{some_sig, sig_reads}
use Rattle.go_type_syntax.proofs.TypeReads.{type_begun, type_reads}
use Rattle.go_expr_syntax.proofs.Rows.{IsSeries, series_reads, end_reads, Eats, eats_of}
use Rattle.go_syntax.proofs.SkipReads.{SkippedAt, skip_reads}
use Rattle.go_syntax.proofs.Groups.{Any}
use Rattle.go_syntax.proofs.GenericReads.{GenericAt, generic_reads}

-- ---- the arguments of a receiver

no_ident_here : (x : Ident) (us : List Symbol) → IsIdent [] x us → ⊥
no_ident_here x us e = absurd cc

idents_series : IsSeries idents IsIdent IsIdents
idents_series = record {
  between = comma;
  ending = close_bracket;
  none = λ c rest. f.no_ident c rest;
  last = λ c ts x rest e. rw e (f.last_ident x c rest);
  more = λ s ts us x xs rest l e q. rw e (f.more_idents x s us xs rest q);
  final = λ s c ts x rest l e. absurd cc;
}

-- one at least
abbrev SomeIdents : List Symbol → List Ident → List Symbol → Type 0
SomeIdents ts names rest = IsIdents ts names rest × (starts is_close_bracket ts ≡ false)

pub ident_eats : Eats ident_at
ident_eats = eats_of IsIdent ident_at no_ident_here ident_reads

idents_read : (ts : List Symbol) → ReadsAt SomeIdents idents_at ts (idents_at ts)
idents_read ts =
    bind_reads IsIdent SomeIdents ident_at (series_end idents (series idents ident_at)) ts
    (λ i. record { tokens = t.CloseBracket 0 ∷ []; made = i ∷ []; stands = λ tail us e. rw e (f.last_ident i 0 tail, refl) })
    (λ i us o. as_reads (After IsIdent IsIdents i) (After IsIdent SomeIdents i) (series_end idents (series idents ident_at) i) us (series_end idents (series idents ident_at) i us)
    (λ vs xs rest q ws e. (q ws e, subst (λ (zs : List Symbol). starts is_close_bracket zs ≡ false) (sym e) refl))
    (end_reads idents IsIdent IsIdents idents_series (series idents ident_at) i us (λ vs less. series_reads idents IsIdent IsIdents idents_series ident_at no_ident_here ident_reads vs)))
    (ident_at ts) (ident_reads ts)

args_read : (ts : List Symbol) → ReadsAt IsArgs args_at ts (args_at ts)
args_read ts =
    choose_reads is_open_bracket IsArgs open_bracket idents_at (λ us. Ok ([], us)) ts
    (λ us. as_reads SomeIdents (Past open_bracket IsArgs) idents_at us (idents_at us) (λ vs names rest w o. f.some_args o vs names rest w.1 w.0) (idents_read us))
    (λ e. done_reads IsArgs (λ us. Ok ([], us)) ts [] (λ tail. f.no_args tail) (λ r d. refl))

-- ---- receivers

-- the end of this receiver
abbrev EndAt : Receiver → List Symbol → Receiver → List Symbol → Type 0
EndAt r ts x rest = (x ≡ r) × IsReceiverEnd ts rest

end_read : (r : Receiver) (ts : List Symbol) → ReadsAt (EndAt r) (receiver_end r) ts (receiver_end r ts)
end_read r ts =
    choose_reads is_comma (EndAt r) comma (receiver_close r) (receiver_close r) ts
    (λ us. past_reads is_close_paren (Past comma (EndAt r)) close_paren (λ rest. Ok (r, rest)) us
    (record { tokens = []; made = r; stands = λ tail c s. (refl, f.closes_late s c tail) })
    (λ k vs e. done_reads (Past close_paren (Past comma (EndAt r))) (λ rest. Ok (r, rest)) vs r (λ tail c s. (refl, f.closes_late s c tail)) (λ r' d. refl)))
    (λ e. past_reads is_close_paren (EndAt r) close_paren (λ rest. Ok (r, rest)) ts
    (record { tokens = []; made = r; stands = λ tail c. (refl, f.closes c tail) })
    (λ k vs e'. done_reads (Past close_paren (EndAt r)) (λ rest. Ok (r, rest)) vs r (λ tail c. (refl, f.closes c tail)) (λ r' d. refl)))

-- what stands after the base of a receiver that begins at this place
abbrev BaseAt : Option Ident → Bool → Ident → ℕ → List Symbol → Receiver → List Symbol → Type 0
BaseAt name pointer base at ts x rest = (args : List Ident) × (us : List Symbol) × (x ≡ receiver name pointer base args at) × IsArgs ts args us × IsReceiverEnd us rest

abbrev base_by : Option Ident → Bool → ℕ → Ident → List Symbol → Reply Receiver
base_by name pointer at base us = receiver_base name pointer base at us

base_read : (name : Option Ident) (pointer : Bool) (base : Ident) (at : ℕ) (ts : List Symbol) → ReadsAt (BaseAt name pointer base at) (receiver_base name pointer base at) ts (receiver_base name pointer base at ts)
base_read name pointer base at ts =
    bind_reads IsArgs (BaseAt name pointer base at) args_at (λ args us. receiver_end (receiver name pointer base args at) us) ts
    (λ args. record { tokens = t.CloseParen 0 ∷ []; made = receiver name pointer base args at; stands = λ tail us w. (args, t.CloseParen 0 ∷ tail, refl, w, f.closes 0 tail) })
    (λ args us o. as_reads (EndAt (receiver name pointer base args at)) (After IsArgs (BaseAt name pointer base at) args) (receiver_end (receiver name pointer base args at)) us (receiver_end (receiver name pointer base args at) us)
    (λ vs x rest w ws q. (args, vs, w.0, q, w.1)) (end_read (receiver name pointer base args at) us))
    (args_at ts) (args_read ts)

some_base : (name : Option Ident) (pointer : Bool) (base : Ident) (at : ℕ) → Sample (BaseAt name pointer base at)
some_base name pointer base at = record { tokens = t.CloseParen 0 ∷ []; made = receiver name pointer base [] at; stands = λ tail. ([], t.CloseParen 0 ∷ tail, refl, f.no_args (t.CloseParen 0 ∷ tail), f.closes 0 tail) }

-- a base, and what stands after it
abbrev WholeAt : Option Ident → Bool → ℕ → List Symbol → Receiver → List Symbol → Type 0
WholeAt name pointer at ts x rest = (base : Ident) × (us : List Symbol) × (ts ≡ t.Ident base ∷ us) × BaseAt name pointer base at us x rest

pointer_read : (name : Option Ident) (at : ℕ) (ts : List Symbol) → ReadsAt (WholeAt name true at) (receiver_pointer name at) ts (receiver_pointer name at ts)
pointer_read name at ts =
    bind_reads IsIdent (WholeAt name true at) ident_at (base_by name true at) ts
    (λ base. let s = some_base name true base at in record { tokens = s.tokens; made = s.made; stands = λ tail us e. (base, s.tokens ++ tail, e, s.stands tail) })
    (λ base us o. as_reads (BaseAt name true base at) (After IsIdent (WholeAt name true at) base) (receiver_base name true base at) us (receiver_base name true base at us) (λ vs x rest w ws e. (base, vs, e, w)) (base_read name true base at us))
    (ident_at ts) (ident_reads ts)

base_as : (i : Ident) (us : List Symbol) (x : Receiver) (rest : List Symbol) → BaseAt None false i i.start us x rest → IsReceiver (t.Ident i ∷ us) x rest
base_as i us x rest w = rw w.2 (f.by_value i us w.0 w.1 rest w.3 w.4)

named_as : (i b : Ident) (us : List Symbol) (x : Receiver) (rest : List Symbol) → BaseAt (Some i) false b i.start us x rest → IsReceiver (t.Ident i ∷ t.Ident b ∷ us) x rest
named_as i b us x rest w = rw w.2 (f.named_value i b us w.0 w.1 rest w.3 w.4)

pointer_as : (i : Ident) (p : ℕ) (us : List Symbol) (x : Receiver) (rest : List Symbol) → WholeAt (Some i) true i.start us x rest → IsReceiver (t.Ident i ∷ t.Star p ∷ us) x rest
pointer_as i p us x rest w = rw (w.2, w.3.2) (f.named_pointer i p w.0 w.1 w.3.0 w.3.1 rest w.3.3 w.3.4)

star_as : (p : ℕ) (us : List Symbol) (x : Receiver) (rest : List Symbol) → WholeAt None true p us x rest → IsReceiver (t.Star p ∷ us) x rest
star_as p us x rest w = rw (w.2, w.3.2) (f.by_pointer p w.0 w.1 w.3.0 w.3.1 rest w.3.3 w.3.4)

alone_read : (i : Ident) (ts : List Symbol) → ReadsAt (Behind (t.Ident i) IsReceiver) (receiver_base None false i i.start) ts (receiver_base None false i i.start ts)
alone_read i ts = as_reads (BaseAt None false i i.start) (Behind (t.Ident i) IsReceiver) (receiver_base None false i i.start) ts (receiver_base None false i i.start ts) (base_as i) (base_read None false i i.start ts)

first_read : (i : Ident) (ts : List Symbol) → ReadsAt (Behind (t.Ident i) IsReceiver) (receiver_first i) ts (receiver_first i ts)
first_read i [] = like_reads (Behind (t.Ident i) IsReceiver) (receiver_first i) (receiver_base None false i i.start) [] (receiver_base None false i i.start []) (ends_so (λ r. receiver_first i r ≡ receiver_base None false i i.start r) refl) (alone_read i [])
first_read i (t.Ident b ∷ ts) =
    cons_reads (Behind (t.Ident i) IsReceiver) (receiver_first i) (receiver_base (Some i) false b i.start) (t.Ident b) ts (receiver_base (Some i) false b i.start ts) (λ r. refl)
    (as_reads (BaseAt (Some i) false b i.start) (Behind (t.Ident b) (Behind (t.Ident i) IsReceiver)) (receiver_base (Some i) false b i.start) ts (receiver_base (Some i) false b i.start ts) (named_as i b) (base_read (Some i) false b i.start ts))
first_read i (t.Star p ∷ ts) =
    cons_reads (Behind (t.Ident i) IsReceiver) (receiver_first i) (receiver_pointer (Some i) i.start) (t.Star p) ts (receiver_pointer (Some i) i.start ts) (λ r. refl)
    (as_reads (WholeAt (Some i) true i.start) (Behind (t.Star p) (Behind (t.Ident i) IsReceiver)) (receiver_pointer (Some i) i.start) ts (receiver_pointer (Some i) i.start ts) (pointer_as i p) (pointer_read (Some i) i.start ts))
first_read i (k ∷ ts) = like_reads (Behind (t.Ident i) IsReceiver) (receiver_first i) (receiver_base None false i i.start) (k ∷ ts) (receiver_base None false i i.start (k ∷ ts)) (next_is (λ r. receiver_first i r ≡ receiver_base None false i i.start r) k (λ r. refl)) (alone_read i (k ∷ ts))

abbrev some_receiver : Sample IsReceiver
some_receiver = let s = some_base None false any_ident any_ident.start in record { tokens = t.Ident any_ident ∷ s.tokens; made = s.made; stands = λ tail. base_as any_ident (s.tokens ++ tail) s.made tail (s.stands tail) }

receiver_read : (ts : List Symbol) → ReadsAt IsReceiver receiver_at ts (receiver_at ts)
receiver_read [] = refuse_end IsReceiver receiver_at some_receiver refl
receiver_read (t.Star p ∷ ts) =
    cons_reads IsReceiver receiver_at (receiver_pointer None p) (t.Star p) ts (receiver_pointer None p ts) (λ r. refl)
    (as_reads (WholeAt None true p) (Behind (t.Star p) IsReceiver) (receiver_pointer None p) ts (receiver_pointer None p ts) (star_as p) (pointer_read None p ts))
receiver_read (t.Ident i ∷ ts) = cons_reads IsReceiver receiver_at (receiver_first i) (t.Ident i) ts (receiver_first i ts) (λ r. refl) (first_read i ts)
receiver_read (k ∷ ts) = refuse_next IsReceiver receiver_at k ts some_receiver (λ r. refl)

-- ---- bodies

abbrev BodyAt : FuncDecl → List Symbol → FuncDecl → List Symbol → Type 0
BodyAt d ts x rest = (x ≡ d) × IsBody ts rest

body_read : (d : FuncDecl) (ts : List Symbol) → ReadsAt (BodyAt d) (body_at d) ts (body_at d ts)
body_read d ts =
    choose_reads is_open_brace (BodyAt d) open_brace (body_by d) (λ us. Ok (d, us)) ts
    (λ us. bind_reads (SkippedAt false) (Past open_brace (BodyAt d)) (skip false []) (λ x vs. body_close d vs) us
    (λ x. record { tokens = t.CloseBrace 0 ∷ []; made = d; stands = λ tail vs w o. (refl, f.body o 0 vs tail w) })
    (λ x vs o. past_reads is_close_brace (After (SkippedAt false) (Past open_brace (BodyAt d)) x) close_brace (λ rest. Ok (d, rest)) vs
    (record { tokens = []; made = d; stands = λ tail c ws w o'. (refl, f.body o' c ws tail w) })
    (λ k ws e. done_reads (Past close_brace (After (SkippedAt false) (Past open_brace (BodyAt d)) x)) (λ rest. Ok (d, rest)) ws d (λ tail c ws' w o'. (refl, f.body o' c ws' tail w)) (λ r e'. refl)))
    (skip false [] us) (skip_reads false us))
    (λ e. done_reads (BodyAt d) (λ us. Ok (d, us)) ts d (λ tail. (refl, f.no_body tail)) (λ r e'. refl))

-- ---- functions

-- after the name and the type parameters
abbrev SigBodyAt : Option Receiver → Ident → List TParam → List Symbol → FuncDecl → List Symbol → Type 0
SigBodyAt r i ps ts x rest = (m : ℕ) × (us : List Symbol) × (sig : SigExpr) × (x ≡ function r i ps sig) × IsSig m ts sig us × IsBody us rest

sig_body_read : (n : ℕ) (r : Option Receiver) (i : Ident) (ps : List TParam) (ts : List Symbol) → ReadsAt (SigBodyAt r i ps) (func_sig n r i ps) ts (func_sig n r i ps ts)
sig_body_read n r i ps ts =
    bind_reads SigAt (SigBodyAt r i ps) (sig_at n (type_at n)) (λ sig us. body_at (function r i ps sig.0) us) ts
    (λ sig. record { tokens = []; made = function r i ps sig.0; stands = λ tail us w. (w.0, tail, sig.0, refl, w.1, f.no_body tail) })
    (λ sig us o. as_reads (BodyAt (function r i ps sig.0)) (After SigAt (SigBodyAt r i ps) sig) (body_at (function r i ps sig.0)) us (body_at (function r i ps sig.0) us) (λ vs x rest w ws q. (q.0, vs, sig.0, w.0, q.1, w.1)) (body_read (function r i ps sig.0) us))
    (sig_at n (type_at n) ts) (sig_reads n (type_at n) (type_reads n) (type_begun n) ts)

some_sig_body : (r : Option Receiver) (i : Ident) (ps : List TParam) → Sample (SigBodyAt r i ps)
some_sig_body r i ps = record { tokens = some_sig.tokens; made = function r i ps some_sig.made.0; stands = λ tail. let w = some_sig.stands tail in (w.0, tail, some_sig.made.0, refl, w.1, f.no_body tail) }

-- ---- methods

abbrev MethodAt : Receiver → List Symbol → FuncDecl → List Symbol → Type 0
MethodAt r ts x rest = (i : Ident) × (us : List Symbol) × (ts ≡ t.Ident i ∷ us) × SigBodyAt (Some r) i [] us x rest

method_name_read : (n : ℕ) (r : Receiver) (ts : List Symbol) → ReadsAt (MethodAt r) (method_name n r) ts (method_name n r ts)
method_name_read n r ts =
    bind_reads IsIdent (MethodAt r) ident_at (λ i us. func_sig n (Some r) i [] us) ts
    (λ i. let s = some_sig_body (Some r) i [] in record { tokens = s.tokens; made = s.made; stands = λ tail us e. (i, s.tokens ++ tail, e, s.stands tail) })
    (λ i us o. as_reads (SigBodyAt (Some r) i []) (After IsIdent (MethodAt r) i) (func_sig n (Some r) i []) us (func_sig n (Some r) i [] us) (λ vs x rest w ws e. (i, vs, e, w)) (sig_body_read n (Some r) i [] us))
    (ident_at ts) (ident_reads ts)

abbrev pub FuncAt : List Symbol → FuncDecl → List Symbol → Type 0
FuncAt = Any IsFunc

method_as : (r : Receiver) (o : ℕ) (ts us : List Symbol) (x : FuncDecl) (rest : List Symbol) → IsReceiver ts r us → MethodAt r us x rest → FuncAt (t.OpenParen o ∷ ts) x rest
method_as r o ts us x rest q w = rw w.3.3 (w.3.0, f.method_func w.3.0 o ts r w.0 w.1 w.3.1 w.3.2 rest (subst (λ (vs : List Symbol). IsReceiver ts r vs) w.2 q) w.3.4 w.3.5)

method_read : (n : ℕ) (ts : List Symbol) → ReadsAt (Past open_paren FuncAt) (method_by n) ts (method_by n ts)
method_read n ts =
    bind_reads IsReceiver (Past open_paren FuncAt) receiver_at (method_name n) ts
    (λ r. let s = some_sig_body (Some r) any_ident [] in record {
      tokens = t.Ident any_ident ∷ s.tokens;
      made = s.made;
      stands = λ tail us q o. method_as r o us (t.Ident any_ident ∷ s.tokens ++ tail) s.made tail q (any_ident, s.tokens ++ tail, refl, s.stands tail);
    })
    (λ r us o. as_reads (MethodAt r) (After IsReceiver (Past open_paren FuncAt) r) (method_name n r) us (method_name n r us) (λ vs x rest w ws q o'. method_as r o' ws vs x rest q w) (method_name_read n r us))
    (receiver_at ts) (receiver_read ts)

-- ---- functions

-- after the name
abbrev OfName : Ident → List Symbol → FuncDecl → List Symbol → Type 0
OfName i = Behind (t.Ident i) FuncAt

plain_as : (i : Ident) (ps : List TParam) (ts us : List Symbol) (x : FuncDecl) (rest : List Symbol) → GenericAt ts ps us → SigBodyAt None i ps us x rest → OfName i ts x rest
plain_as i ps ts us x rest q w = rw w.3 (max q.0 w.0, f.plain_func q.0 w.0 i ts ps us w.1 w.2 rest q.1 w.4 w.5)

func_generic_read : (n : ℕ) (i : Ident) (ts : List Symbol) → ReadsAt (OfName i) (func_generic n i) ts (func_generic n i ts)
func_generic_read n i ts =
    bind_reads GenericAt (OfName i) (generic_at n) (func_sig n None i) ts
    (λ ps. let s = some_sig_body None i ps in record { tokens = s.tokens; made = s.made; stands = λ tail us w. plain_as i ps us (s.tokens ++ tail) s.made tail w (s.stands tail) })
    (λ ps us o. as_reads (SigBodyAt None i ps) (After GenericAt (OfName i) ps) (func_sig n None i ps) us (func_sig n None i ps us) (λ vs x rest w ws q. plain_as i ps ws vs x rest q w) (sig_body_read n None i ps us))
    (generic_at n ts) (generic_reads n ts)

some_func : (i : Ident) → Sample (OfName i)
some_func i = let s = some_sig_body None i [] in record { tokens = s.tokens; made = s.made; stands = λ tail. plain_as i [] (s.tokens ++ tail) (s.tokens ++ tail) s.made tail (0, g.plain (s.tokens ++ tail)) (s.stands tail) }

name_read : (n : ℕ) (ts : List Symbol) → ReadsAt FuncAt (func_name n) ts (func_name n ts)
name_read n ts =
    bind_reads IsIdent FuncAt ident_at (func_generic n) ts
    (λ i. let s = some_func i in record { tokens = s.tokens; made = s.made; stands = λ tail us e. rw e (s.stands tail) })
    (λ i us o. as_reads (OfName i) (After IsIdent FuncAt i) (func_generic n i) us (func_generic n i us) (λ vs x rest w ws e. rw e w) (func_generic_read n i us))
    (ident_at ts) (ident_reads ts)

pub func_reads : (n : ℕ) (ts : List Symbol) → ReadsAt FuncAt (func_at n) ts (func_at n ts)
func_reads n ts = choose_reads is_open_paren FuncAt open_paren (method_by n) (func_name n) ts (λ us. method_read n us) (λ e. name_read n ts)
