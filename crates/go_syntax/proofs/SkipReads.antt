-- What the reader of skipped text does.
use Rattle.std.proofs.Common.{◌≡◌, Bool, true, false, if◌then◌else◌, List, [], ◌∷◌, ◌++◌, Option, Some, None, Ok, refl, sym, ap, ◌∙◌}
use Rattle.go_expr_syntax.specs.declared.symbols.Symbol.{Symbol}
use Rattle.go_expr_syntax.specs.declared.symbols.Symbol.TheVariants as t
use Rattle.go_syntax.specs.declared.skipped.Bracket.{Bracket}
use Rattle.go_syntax.specs.declared.skipped.Bracket.TheVariants.{Round, Square, Curly}
use Rattle.go_expr_syntax.specs.Reading.{Reply, unexpected}
use Rattle.go_syntax.specs.Skipped.{opened, closed, stands_outside, IsSkipped, nothing, token, within, same, skip_end, skip_close, skip_plain, skip_on, skip}
use Rattle.go_expr_syntax.proofs.Viable.{ReadsAt, Sample, Behind, next_is, ends_so, done_reads, refuse_next, refuse_end, as_reads, cons_reads}

-- the text, where these brackets are open: each is closed, and then the rest of the text outside it follows
abbrev pub Closing : Bool → List Bracket → List Symbol → Unit {0} → List Symbol → Type 0
Closing line [] ts x rest = IsSkipped line ts rest
Closing line (b ∷ bs) ts x rest = (c : Symbol) × (us : List Symbol) × (closed c ≡ Some b) × IsSkipped false ts (c ∷ us) × Closing line bs us x rest

abbrev close_of : Bracket → Symbol
close_of Round = t.CloseParen 0
close_of Square = t.CloseBracket 0
close_of Curly = t.CloseBrace 0

close_is : (b : Bracket) → closed (close_of b) ≡ Some b
close_is Round = refl
close_is Square = refl
close_is Curly = refl

some_closing : (line : Bool) (bs : List Bracket) → Sample (Closing line bs)
some_closing line [] = record { tokens = []; made = tt; stands = λ tail. nothing line tail }
some_closing line (b ∷ bs) =
    let s = some_closing line bs in
    record { tokens = close_of b ∷ s.tokens; made = tt; stands = λ tail. (close_of b, s.tokens ++ tail, close_is b, nothing false (close_of b ∷ s.tokens ++ tail), s.stands tail) }

same_is : (a b : Bracket) → same a b ≡ true → a ≡ b
same_is Round Round e = refl
same_is Square Square e = refl
same_is Curly Curly e = refl
same_is _ _ e = absurd cc

-- a token that opens a bracket
join_open : (line : Bool) (b : Bracket) (bs : List Bracket) (k : Symbol) → opened k ≡ Some b → (us : List Symbol) (x : Unit {0}) (rest : List Symbol) → Closing line (b ∷ bs) us x rest → Closing line bs (k ∷ us) x rest
join_open line b [] k e us x rest w = within line b k w.0 us w.1 rest e w.2 w.3 w.4
join_open line b (a ∷ bs) k e us x rest w = (w.4.0, w.4.1, w.4.2, within false b k w.0 us w.1 (w.4.0 ∷ w.4.1) e w.2 w.3 w.4.3, w.4.4)

module _ (line : Bool) (k : Symbol) (ts : List Symbol) (later : (bs : List Bracket) → ReadsAt (Closing line bs) (skip line bs) ts (skip line bs ts)) where
  abbrev more : List Bracket → Reply (Unit {0})
  more bs = skip line bs ts

  open_reads : (b : Bracket) (bs : List Bracket) → opened k ≡ Some b → ReadsAt (Closing line bs) (skip line bs) (k ∷ ts) (more (b ∷ bs))
  open_reads b bs e =
      cons_reads (Closing line bs) (skip line bs) (skip line (b ∷ bs)) k ts (more (b ∷ bs)) (λ r. rw e refl)
      (as_reads (Closing line (b ∷ bs)) (Behind k (Closing line bs)) (skip line (b ∷ bs)) ts (more (b ∷ bs)) (join_open line b bs k e) (later (b ∷ bs)))

  match_reads : (a b : Bracket) (bs : List Bracket) (m : Bool) → opened k ≡ None → closed k ≡ Some b → same a b ≡ m → ReadsAt (Closing line (a ∷ bs)) (skip line (a ∷ bs)) (k ∷ ts) (if m then more bs else unexpected (k ∷ ts))
  match_reads a b bs true e f s =
      let is : closed k ≡ Some a = f ∙ ap (λ (x : Bracket). Some x) (sym (same_is a b s)) in
      cons_reads (Closing line (a ∷ bs)) (skip line (a ∷ bs)) (skip line bs) k ts (more bs) (λ r. rw (e, f, s) refl)
      (as_reads (Closing line bs) (Behind k (Closing line (a ∷ bs))) (skip line bs) ts (more bs) (λ us x rest w. (k, us, is, nothing false (k ∷ us), w)) (later bs))
  match_reads a b bs false e f s = refuse_next (Closing line (a ∷ bs)) (skip line (a ∷ bs)) k ts (some_closing line (a ∷ bs)) (λ r. rw (e, f, s) refl)

  close_reads : (bs : List Bracket) (b : Bracket) → opened k ≡ None → closed k ≡ Some b → ReadsAt (Closing line bs) (skip line bs) (k ∷ ts) (skip_close bs more k ts b)
  close_reads [] b e f = done_reads (Closing line []) (skip line []) (k ∷ ts) tt (λ tail. nothing line tail) (next_is (λ r. skip line [] r ≡ Ok (tt, r)) k (λ r. rw (e, f) refl))
  close_reads (a ∷ bs) b e f = match_reads a b bs (same a b) e f refl

  outside_reads : (m : Bool) → opened k ≡ None → closed k ≡ None → stands_outside line k ≡ m → ReadsAt (Closing line []) (skip line []) (k ∷ ts) (if m then more [] else Ok (tt, k ∷ ts))
  outside_reads true e f s =
      cons_reads (Closing line []) (skip line []) (skip line []) k ts (more []) (λ r. rw (e, f, s) refl)
      (as_reads (Closing line []) (Behind k (Closing line [])) (skip line []) ts (more []) (λ us x rest w. token line k us rest e f s w) (later []))
  outside_reads false e f s = done_reads (Closing line []) (skip line []) (k ∷ ts) tt (λ tail. nothing line tail) (next_is (λ r. skip line [] r ≡ Ok (tt, r)) k (λ r. rw (e, f, s) refl))

  plain_reads : (bs : List Bracket) → opened k ≡ None → closed k ≡ None → ReadsAt (Closing line bs) (skip line bs) (k ∷ ts) (skip_plain line bs more k ts)
  plain_reads [] e f = outside_reads (stands_outside line k) e f refl
  plain_reads (a ∷ bs) e f =
      cons_reads (Closing line (a ∷ bs)) (skip line (a ∷ bs)) (skip line (a ∷ bs)) k ts (more (a ∷ bs)) (λ r. rw (e, f) refl)
      (as_reads (Closing line (a ∷ bs)) (Behind k (Closing line (a ∷ bs))) (skip line (a ∷ bs)) ts (more (a ∷ bs)) (λ us x rest w. (w.0, w.1, w.2, token false k us (w.0 ∷ w.1) e f refl w.3, w.4)) (later (a ∷ bs)))

  step_reads : (bs : List Bracket) (o c : Option Bracket) → opened k ≡ o → closed k ≡ c → ReadsAt (Closing line bs) (skip line bs) (k ∷ ts) (skip_on line bs more k ts o c)
  step_reads bs (Some b) c e f = open_reads b bs e
  step_reads bs None (Some b) e f = close_reads bs b e f
  step_reads bs None None e f = plain_reads bs e f

end_reads : (line : Bool) (bs : List Bracket) → ReadsAt (Closing line bs) (skip line bs) [] (skip_end bs)
end_reads line [] = done_reads (Closing line []) (skip line []) [] tt (λ tail. nothing line tail) (ends_so (λ r. skip line [] r ≡ Ok (tt, r)) refl)
end_reads line (b ∷ bs) = refuse_end (Closing line (b ∷ bs)) (skip line (b ∷ bs)) (some_closing line (b ∷ bs)) refl

pub closing_reads : (line : Bool) (ts : List Symbol) (bs : List Bracket) → ReadsAt (Closing line bs) (skip line bs) ts (skip line bs ts)
closing_reads line [] bs = end_reads line bs
closing_reads line (k ∷ ts) bs = step_reads line k ts (λ cs. closing_reads line ts cs) bs (opened k) (closed k) refl refl

-- the whole text
abbrev pub SkippedAt : Bool → List Symbol → Unit {0} → List Symbol → Type 0
SkippedAt line ts x rest = IsSkipped line ts rest

pub skip_reads : (line : Bool) (ts : List Symbol) → ReadsAt (SkippedAt line) (skip line []) ts (skip line [] ts)
skip_reads line ts = closing_reads line ts []

-- ---- what is skipped once is skipped again

closed_opens_none : (c : Symbol) (b : Bracket) → closed c ≡ Some b → opened c ≡ None
closed_opens_none (t.OpenParen at) b e = absurd cc
closed_opens_none (t.OpenBracket at) b e = absurd cc
closed_opens_none (t.OpenBrace at) b e = absurd cc
closed_opens_none _ b e = refl

same_refl : (b : Bracket) → same b b ≡ true
same_refl Round = refl
same_refl Square = refl
same_refl Curly = refl

-- the bracket that closes
closes_again : (line : Bool) (b : Bracket) (bs : List Bracket) (c : Symbol) (us : List Symbol) → closed c ≡ Some b → skip line (b ∷ bs) (c ∷ us) ≡ skip line bs us
closes_again line b bs c us f = rw (closed_opens_none c b f, f, same_refl b) refl

inside_again : (ts rest : List Symbol) → IsSkipped false ts rest → (line : Bool) (b : Bracket) (bs : List Bracket) → skip line (b ∷ bs) ts ≡ skip line (b ∷ bs) rest
inside_again ts rest (nothing l r) line b bs = refl
inside_again ts rest (token l k us r e f s w) line b bs = let here : skip line (b ∷ bs) (k ∷ us) ≡ skip line (b ∷ bs) us = rw (e, f) refl in here ∙ inside_again us r w line b bs
inside_again ts rest (within l a o c us vs r e f w v) line b bs =
    let here : skip line (b ∷ bs) (o ∷ us) ≡ skip line (a ∷ b ∷ bs) us = rw e refl in
    here ∙ inside_again us (c ∷ vs) w line a (b ∷ bs) ∙ closes_again line a (b ∷ bs) c vs f ∙ inside_again vs r v line b bs

pub skip_again : (line : Bool) (ts rest : List Symbol) → IsSkipped line ts rest → skip line [] ts ≡ skip line [] rest
skip_again line ts rest (nothing l r) = refl
skip_again line ts rest (token l k us r e f s w) = let here : skip line [] (k ∷ us) ≡ skip line [] us = rw (e, f, s) refl in here ∙ skip_again line us r w
skip_again line ts rest (within l a o c us vs r e f w v) =
    let here : skip line [] (o ∷ us) ≡ skip line (a ∷ []) us = rw e refl in
    here ∙ inside_again us (c ∷ vs) w line a [] ∙ closes_again line a [] c vs f ∙ skip_again line vs r v
