-- What a call answers, and the laws of the grammar.
use Rattle.std.proofs.Common.{◌≡◌, ℕ, List, Result, Ok, Err, Vec, Global, sym, ◌∙◌, refl, subst, ◌⊎◌, inl, inr}
use Rattle.std.specs.Prelude.{IfOk, IfErr}
use Rattle.go_lexer.specs.declared.token_kinds.Token.{Token}
use Rattle.go_lexer.specs.declared.token_kinds.LexFault.{LexFault}
use Rattle.go_lexer.specs.declared.token_kinds.LexFault.TheVariants as fault
use Rattle.go_lexer.specs.Lexing.{lexed_source, LexesAs, Fails}
use Rattle.go_lexer.specs.FaultGrammar.{IsFirstFault}
use Rattle.go_lexer.specs.TokenGrammar.{IsLexed}
use Rattle.go_lexer.proofs.SourceFaults.{fault_takes, fault_again}
use Rattle.go_lexer.proofs.Whole.{source_takes, source_again}

abbrev Answer : Type 0
Answer = Result (Vec Token Global) LexFault

abbrev items_of : Vec Token Global → List Token
items_of found = found.items

pub is_found : (r : Answer) (source : List ℕ) → LexesAs items_of r (lexed_source source) → IfOk r (λ found. IsLexed source found.items)
is_found (Ok found) source h = source_takes source found.items h
is_found (Err f) source h = tt

pub is_only : (r : Answer) (source : List ℕ) (items : List Token) → IsLexed source items → LexesAs items_of r (lexed_source source) → LexesAs items_of r (Ok items)
is_only r source items l h = subst (λ read. LexesAs items_of r read) (source_again source items l) h

fault_by : (f : LexFault) (source : List ℕ) → Fails f (lexed_source source) → (f ≡ fault.OutOfMemory) ⊎ IsFirstFault source f
fault_by (fault.BadUtf8 at) source h = inr (fault_takes source (fault.BadUtf8 at) h)
fault_by (fault.Nul at) source h = inr (fault_takes source (fault.Nul at) h)
fault_by (fault.BadChar at) source h = inr (fault_takes source (fault.BadChar at) h)
fault_by (fault.OpenString at) source h = inr (fault_takes source (fault.OpenString at) h)
fault_by (fault.OpenComment at) source h = inr (fault_takes source (fault.OpenComment at) h)
fault_by (fault.BadEscape at) source h = inr (fault_takes source (fault.BadEscape at) h)
fault_by (fault.BadNumber at) source h = inr (fault_takes source (fault.BadNumber at) h)
fault_by fault.OutOfMemory source h = inl refl

pub is_fault : (r : Answer) (source : List ℕ) → LexesAs items_of r (lexed_source source) → IfErr r (λ f. (f ≡ fault.OutOfMemory) ⊎ IsFirstFault source f)
is_fault (Ok found) source h = tt
is_fault (Err f) source h = fault_by f source h

pub is_met : (r : Answer) (source : List ℕ) (f : LexFault) → IsFirstFault source f → LexesAs items_of r (lexed_source source) → LexesAs items_of r (Err f)
is_met r source f l h = subst (λ read. LexesAs items_of r read) (fault_again source f l) h

-- the laws
abbrev done : List Token → Result (List Token) LexFault
done items = Ok items

abbrev failed : LexFault → Result (List Token) LexFault
failed f = Err f

pub one_list : (source : List ℕ) (items others : List Token) → IsLexed source items → IsLexed source others → items ≡ others
one_list source items others h k = let e : done items ≡ done others = sym (source_again source items h) ∙ source_again source others k in cc

pub not_both : (source : List ℕ) (items : List Token) (f : LexFault) → IsLexed source items → IsFirstFault source f → ⊥
not_both source items f h k = let e : done items ≡ failed f = sym (source_again source items h) ∙ fault_again source f k in cc

pub one_fault : (source : List ℕ) (f g : LexFault) → IsFirstFault source f → IsFirstFault source g → f ≡ g
one_fault source f g h k = let e : failed f ≡ failed g = sym (fault_again source f h) ∙ fault_again source g k in cc

some_by : (source : List ℕ) (r : Result (List Token) LexFault) → lexed_source source ≡ r → ((items : List Token) × IsLexed source items) ⊎ ((f : LexFault) × IsFirstFault source f)
some_by source (Ok items) e = inl (items, source_takes source items e)
some_by source (Err f) e = inr (f, fault_takes source f e)

pub one_of_both : (source : List ℕ) → ((items : List Token) × IsLexed source items) ⊎ ((f : LexFault) × IsFirstFault source f)
one_of_both source = some_by source (lexed_source source) refl
