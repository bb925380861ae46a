-- What is answered where no file has a place under a code, and where one has.
use Rattle.std.proofs.Common.{◌≡◌, ◌⊎◌, inl, inr, ℕ, zero, suc, ◌<◌, List, [], ◌∷◌, ◌++◌, Option, Some, None, Result, Ok, Err, map, refl, sym, ap, subst, ◌∙◌, arith}
use Rattle.go_syntax.specs.declared.tree.SourceFile.{SourceFile}
use Rattle.refusal_codes.specs.Codes.{order_of}
use Rattle.refusal_codes.specs.declared.codes.Code.{Code}
use Rattle.refusal_codes.specs.declared.codes.Code.TheVariants as code
use Rattle.refusal_codes.proofs.CodeLaws.{distinct_order}
use Rattle.source_places.specs.declared.places.Found.{Found}
use Rattle.source_places.specs.declared.stages.StageError.{StageError}
use Rattle.source_places.specs.declared.stages.StageError.TheVariants.{Refused, Failed}
use Rattle.source_places.specs.Places.{least}
use Rattle.source_places.specs.Stages.{IsRefusal, IsStage}
use Rattle.source_walk.specs.declared.parsed.ParsedFile.{ParsedFile}
use Rattle.parsed_files.specs.declared.faults.FileFault.{FileFault}
use Rattle.parsed_files.specs.declared.faults.FileFault.TheVariants as fault
use Rattle.parsed_files.specs.declared.faults.FileError.{FileError}
use Rattle.parsed_files.specs.declared.faults.FileError.TheVariants as error
use Rattle.parsed_files.specs.Outcomes.{outcome, fault_place, places_from, AreTrees}
use Rattle.parsed_files.specs.FirstFaults.{IsRefusedBy, IsTold, AllTold, parsed, tree_if_any, trees_of}

-- ---- the codes before

before_none : (c : Code) → order_of c < 0 → ⊥
before_none c h = absurd (omega (arith, h))

before_syntax : (c : Code) → order_of c < 1 → c ≡ code.Lex
before_syntax c h = distinct_order c code.Lex (omega (arith, h))

before_left_out : (c : Code) → order_of c < 2 → (c ≡ code.Lex) ⊎ (c ≡ code.Syntax)
before_left_out c h = by_number (order_of c) refl h
  where
    by_number : (k : ℕ) → order_of c ≡ k → k < 2 → (c ≡ code.Lex) ⊎ (c ≡ code.Syntax)
    by_number zero e h = inl (distinct_order c code.Lex e)
    by_number (suc zero) e h = inr (distinct_order c code.Syntax e)
    by_number (suc (suc k)) e h = absurd (omega (arith, h))

module _ (E X : Type 0) (places : Code → List (Found FileFault)) where
  -- a refusal under a code, where none before it has a place
  refused : (c : Code) (r : StageError Code FileFault E) → ((d : Code) → order_of d < order_of c → places d ≡ []) → IsStage {X = X} places c (Err r) → IsRefusedBy places r
  refused c (Refused r) before stage = record {
    earlier = λ d h. before d (subst (λ k. order_of d < order_of k) stage.0 h);
    place = ap (λ k. least (places k)) stage.0 ∙ stage.1;
  }
  refused c (Failed e) before stage = tt

  pub lex_refused : (r : StageError Code FileFault E) → IsStage {X = X} places code.Lex (Err r) → IsRefusedBy places r
  lex_refused r stage = refused code.Lex r (λ d h. absurd (before_none d h)) stage

  pub syntax_refused : (r : StageError Code FileFault E) → places code.Lex ≡ [] → IsStage {X = X} places code.Syntax (Err r) → IsRefusedBy places r
  syntax_refused r lex stage = refused code.Syntax r (λ d h. ap places (before_syntax d h) ∙ lex) stage

  pub left_out_refused : (r : StageError Code FileFault E) → places code.Lex ≡ [] → places code.Syntax ≡ [] → IsStage {X = X} places code.LeftOut (Err r) → IsRefusedBy places r
  left_out_refused r lex syntax stage = refused code.LeftOut r (λ d h. one_of d (before_left_out d h)) stage
    where
      one_of : (d : Code) → (d ≡ code.Lex) ⊎ (d ≡ code.Syntax) → places d ≡ []
      one_of d (inl e) = ap places e ∙ lex
      one_of d (inr e) = ap places e ∙ syntax

-- ---- trees of all files

left_nil : {X : Type 0} (xs ys : List X) → xs ++ ys ≡ [] → xs ≡ []
left_nil [] ys e = refl
left_nil (x ∷ xs) ys e = absurd cc

right_nil : {X : Type 0} (xs ys : List X) → xs ++ ys ≡ [] → ys ≡ []
right_nil [] ys e = e
right_nil (x ∷ xs) ys e = absurd cc

-- no file has a place under the three codes
pub record NoFault (n : ℕ) (sources : List (List ℕ)) : Type 0 where
  pub lex : places_from code.Lex n sources ≡ []
  pub syntax : places_from code.Syntax n sources ≡ []
  pub left_out : places_from code.LeftOut n sources ≡ []

later : (n : ℕ) (source : List ℕ) (sources : List (List ℕ)) → NoFault n (source ∷ sources) → NoFault (suc n) sources
later n source sources none = record {
  lex = right_nil (fault_place code.Lex n (outcome source)) _ none.lex;
  syntax = right_nil (fault_place code.Syntax n (outcome source)) _ none.syntax;
  left_out = right_nil (fault_place code.LeftOut n (outcome source)) _ none.left_out;
}

-- no outcome without a place under one of the codes is a fault
no_place : (n at : ℕ) (cause : FileFault) → fault_place code.Lex n (Err (error.Fault (record { at = at; cause = cause }))) ≡ []
    → fault_place code.Syntax n (Err (error.Fault (record { at = at; cause = cause }))) ≡ []
    → fault_place code.LeftOut n (Err (error.Fault (record { at = at; cause = cause }))) ≡ [] → ⊥
no_place n at (fault.Lex f) a b c = absurd cc
no_place n at fault.Unexpected a b c = absurd cc
no_place n at (fault.LeftOut w) a b c = absurd cc

by_outcome : (n : ℕ) (source : List ℕ) (sources : List (List ℕ)) (files : List ParsedFile) (o : Result SourceFile FileError) → outcome source ≡ o
    → ((fs : List ParsedFile) → map parsed fs ≡ trees_of sources → AreTrees sources fs)
    → AllTold (source ∷ sources) → NoFault n (source ∷ sources) → map parsed files ≡ trees_of (source ∷ sources) → AreTrees (source ∷ sources) files
by_outcome n source sources [] (Ok tree) is rest told none e = let k : [] ≡ (source, tree) ∷ trees_of sources = e ∙ ap (λ o. tree_if_any source o ++ trees_of sources) is in absurd cc
by_outcome n source sources (f ∷ fs) (Ok tree) is rest told none e =
    let k : parsed f ∷ map parsed fs ≡ (source, tree) ∷ trees_of sources = e ∙ ap (λ o. tree_if_any source o ++ trees_of sources) is in
    let first : parsed f ≡ (source, tree) = cc in
    let others : map parsed fs ≡ trees_of sources = cc in
    (ap (λ p. p.0) first, is ∙ sym (ap (λ p. Ok p.1) first), rest fs others)
by_outcome n source sources files (Err (error.Fault f)) is rest told none e = absurd (no_place n f.at f.cause
    (left_nil _ (places_from code.Lex (suc n) sources) (ap (λ o. fault_place code.Lex n o ++ places_from code.Lex (suc n) sources) (sym is) ∙ none.lex))
    (left_nil _ (places_from code.Syntax (suc n) sources) (ap (λ o. fault_place code.Syntax n o ++ places_from code.Syntax (suc n) sources) (sym is) ∙ none.syntax))
    (left_nil _ (places_from code.LeftOut (suc n) sources) (ap (λ o. fault_place code.LeftOut n o ++ places_from code.LeftOut (suc n) sources) (sym is) ∙ none.left_out)))
by_outcome n source sources files (Err error.OutOfMemory) is rest told none e = absurd (subst IsTold is told.0)

pub all_are_trees : (n : ℕ) (sources : List (List ℕ)) (files : List ParsedFile) → AllTold sources → NoFault n sources → map parsed files ≡ trees_of sources → AreTrees sources files
all_are_trees n [] [] told none e = tt
all_are_trees n [] (f ∷ fs) told none e = absurd cc
all_are_trees n (source ∷ sources) files told none e =
    by_outcome n source sources files (outcome source) refl (λ fs is. all_are_trees (suc n) sources fs told.1 (later n source sources none) is) told none e
