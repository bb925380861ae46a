-- A declaration of a function that is written is read again.
use Rattle.std.proofs.Common.{arith, max, ◌≡◌, ℕ, Bool, true, false, List, [], ◌∷◌, Option, Some, None, Ok, refl, sym, ap, ◌∙◌}
use Rattle.go_expr_syntax.specs.declared.symbols.Symbol.{Symbol}
use Rattle.go_expr_syntax.specs.declared.symbols.Symbol.TheVariants as t
use Rattle.go_expr_syntax.specs.declared.symbols.Ident.{Ident}
use Rattle.go_syntax.specs.declared.tree.Receiver.{Receiver}
use Rattle.go_syntax.specs.declared.tree.FuncDecl.{FuncDecl}
use Rattle.go_type_syntax.specs.declared.tree.SigExpr.{SigExpr}
use Rattle.go_syntax.specs.declared.tree.TParam.{TParam}
use Rattle.go_expr_syntax.specs.Reading.{Reply, ◌>>=◌, starts, is_open_paren, is_open_bracket, is_open_brace, series}
use Rattle.go_expr_syntax.specs.Names.{ident_at}
use Rattle.go_type_syntax.specs.Grammar.{IsSig}
use Rattle.go_type_syntax.specs.Params.{sig_at}
use Rattle.go_type_syntax.specs.Types.{type_at}
use Rattle.go_syntax.specs.Functions as f
use Rattle.go_syntax.specs.Functions.{receiver, function, IsIdents, IsArgs, IsReceiverEnd, IsReceiver, IsBody, IsFunc, idents, idents_at, args_at, receiver_end, receiver_base, receiver_at, body_close, body_by, body_at, func_sig, func_at}
use Rattle.go_expr_syntax.proofs.Rows.{series_is}
use Rattle.go_expr_syntax.proofs.Agreeing.{Agrees, agrees_bind, agrees_from, sized, choose_other, series_opens}
use Rattle.go_syntax.specs.Generics.{generic_at}
use Rattle.go_type_syntax.proofs.Follows.{Free, next_so, sig_opens}
use Rattle.go_syntax.proofs.GenericAgain.{agrees_more, generic_again}
use Rattle.go_syntax.proofs.FuncReads.{ident_eats}
use Rattle.go_syntax.proofs.SkipReads.{skip_again}
use Rattle.go_type_syntax.proofs.TypeAgain.{sig_again}

-- ---- receivers

idents_again : (ts : List Symbol) (names : List Ident) (rest : List Symbol) → IsIdents ts names rest → series idents ident_at ts ≡ Ok (names, rest)
idents_again ts names rest (f.no_ident c r) = series_is idents ident_at ident_eats (t.CloseBracket c ∷ r)
idents_again ts names rest (f.last_ident i c r) = series_is idents ident_at ident_eats (t.Ident i ∷ t.CloseBracket c ∷ r)
idents_again ts names rest (f.more_idents i s us ns r w) =
    series_is idents ident_at ident_eats (t.Ident i ∷ t.Comma s ∷ us) ∙ ap (λ (m : Reply (List Ident)). m >>= λ z. Ok (i ∷ z.0, z.1)) (idents_again us ns r w)

args_again : (ts : List Symbol) (args : List Ident) (rest : List Symbol) → IsArgs ts args rest → starts is_open_bracket rest ≡ false → args_at ts ≡ Ok (args, rest)
args_again ts args rest (f.no_args r) e = choose_other is_open_bracket r idents_at (Ok ([], r)) e
args_again ts args rest (f.some_args o us ns r s w) e = sym (series_opens idents ident_at (series idents ident_at) us s) ∙ sym (series_is idents ident_at ident_eats us) ∙ idents_again us ns r w

end_no_bracket : (us rest : List Symbol) → IsReceiverEnd us rest → starts is_open_bracket us ≡ false
end_no_bracket us rest (f.closes c r) = refl
end_no_bracket us rest (f.closes_late s c r) = refl

end_again : (x : Receiver) (us rest : List Symbol) → IsReceiverEnd us rest → receiver_end x us ≡ Ok (x, rest)
end_again x us rest (f.closes c r) = refl
end_again x us rest (f.closes_late s c r) = refl

base_again : (name : Option Ident) (pointer : Bool) (base : Ident) (at : ℕ) (ts : List Symbol) (args : List Ident) (us rest : List Symbol) → IsArgs ts args us → IsReceiverEnd us rest
    → receiver_base name pointer base at ts ≡ Ok (receiver name pointer base args at, rest)
base_again name pointer base at ts args us rest a w = rw (args_again ts args us a (end_no_bracket us rest w)) (end_again (receiver name pointer base args at) us rest w)

-- a base alone is followed by no identifier and no star
alone_again : (base : Ident) (ts : List Symbol) (args : List Ident) (us rest : List Symbol) → IsArgs ts args us → IsReceiverEnd us rest → receiver_at (t.Ident base ∷ ts) ≡ receiver_base None false base base.start ts
alone_again base ts args us rest (f.no_args r) (f.closes c r') = refl
alone_again base ts args us rest (f.no_args r) (f.closes_late s c r') = refl
alone_again base ts args us rest (f.some_args o vs ns r s w) q = refl

receiver_again : (ts : List Symbol) (x : Receiver) (rest : List Symbol) → IsReceiver ts x rest → receiver_at ts ≡ Ok (x, rest)
receiver_again ts x rest (f.by_value base us args vs r a w) = alone_again base us args vs r a w ∙ base_again None false base base.start us args vs r a w
receiver_again ts x rest (f.by_pointer p base us args vs r a w) = base_again None true base p us args vs r a w
receiver_again ts x rest (f.named_value i base us args vs r a w) = base_again (Some i) false base i.start us args vs r a w
receiver_again ts x rest (f.named_pointer i p base us args vs r a w) = base_again (Some i) true base i.start us args vs r a w

-- ---- bodies

body_free : (us rest : List Symbol) → IsBody us rest → Free rest → Free us
body_free us rest (f.no_body r) e = e
body_free us rest (f.body o c ts r w) e = refl

body_again : (d : FuncDecl) (us rest : List Symbol) → IsBody us rest → starts is_open_brace rest ≡ false → body_at d us ≡ Ok (d, rest)
body_again d us rest (f.no_body r) e = choose_other is_open_brace r (body_by d) (Ok (d, r)) e
body_again d us rest (f.body o c ts r w) e = rw (skip_again false ts (t.CloseBrace c ∷ r) w) refl

-- ---- functions

sig_body_again : (n m : ℕ) (r : Option Receiver) (i : Ident) (ps : List TParam) (ts us : List Symbol) (sig : SigExpr) (rest : List Symbol) → IsSig m ts sig us → IsBody us rest → starts is_open_brace rest ≡ false → Free rest
    → Agrees n m (function r i ps sig) rest (func_sig n r i ps ts)
sig_body_again n m r i ps ts us sig rest a b e free =
    agrees_bind n m (sized n m sig) us n m (function r i ps sig) rest (sig_at n (type_at n) ts) (λ z ws. body_at (function r i ps z.0) ws) (sig_again m ts sig us a (body_free us rest b free) n) (λ d. d)
    (λ le. agrees_from n m (function r i ps sig) rest (Ok (function r i ps sig, rest)) (body_at (function r i ps sig) us) (body_again (function r i ps sig) us rest b e) (refl, refl, le))

paren_no_bracket : (k : Symbol) → is_open_paren k ≡ true → is_open_bracket k ≡ false
paren_no_bracket (t.OpenBracket at) e = absurd cc
paren_no_bracket _ e = refl

sig_no_bracket : (m : ℕ) (ts : List Symbol) (sig : SigExpr) (rest : List Symbol) → IsSig m ts sig rest → starts is_open_bracket ts ≡ false
sig_no_bracket m ts sig rest w = next_so is_open_paren is_open_bracket true false ts paren_no_bracket (λ d. refl) (sig_opens m ts sig rest w)

pub func_again : (n m : ℕ) (ts : List Symbol) (x : FuncDecl) (rest : List Symbol) → IsFunc m ts x rest → starts is_open_brace rest ≡ false → Free rest → Agrees n m x rest (func_at n ts)
func_again n m ts x rest (f.plain_func k j i us ps vs ws sig r p a b) e free =
    agrees_bind n k ps vs n (max k j) (function None i ps sig) r (generic_at n us) (func_sig n None i) (generic_again n k us ps vs p (sig_no_bracket j vs sig ws a)) (λ d. omega arith)
    (λ le. agrees_more n k j (function None i ps sig) r (func_sig n None i ps vs) le (sig_body_again n j None i ps vs ws sig r a b e free))
func_again n m ts x rest (f.method_func j o us y i vs ws sig r q a b) e free = rw (receiver_again us y (t.Ident i ∷ vs) q) (sig_body_again n j (Some y) i [] vs ws sig r a b e free)
