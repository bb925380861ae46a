-- A loop over files: the trees and first faults so far, and what the rest of the files gives.
use Rattle.std.proofs.Common.{◌≡◌, ℕ, suc, ◌<◌, ◌≤◌, ◌+◌, List, [], ◌∷◌, ◌++◌, Option, Some, None, Result, Ok, Err, map, length, drop, get_or, refl, sym, ap, subst, ◌∙◌, add-one, drop-cons}
use Rattle.std.specs.Borrow.{Bor}
use Rattle.std.specs.List.{All}
use Rattle.std.proofs.lemmas.List.Elements.{All-append, All-cons, All-nil}
use Rattle.go_syntax.specs.StandingFiles.{FileStands}
use Rattle.std.proofs.Math.ListN.{drop_of_length-le}
use Rattle.std.proofs.lemmas.List.{append_assoc, append-nil}
use Rattle.go_syntax.specs.declared.tree.SourceFile.{SourceFile}
use Rattle.refusal_codes.specs.declared.codes.Code.{Code}
use Rattle.refusal_codes.specs.declared.codes.Code.TheVariants as code
use Rattle.source_places.specs.declared.places.Found.{Found}
use Rattle.source_places.specs.Places.{earlier, least}
use Rattle.source_places.proofs.LeastLaws.{earlier_none, earlier_assoc}
use Rattle.source_walk.specs.declared.parsed.ParsedFile.{ParsedFile}
use Rattle.parsed_files.specs.declared.faults.FileFault.{FileFault}
use Rattle.parsed_files.specs.declared.faults.FileFault.TheVariants as fault
use Rattle.parsed_files.specs.declared.faults.FaultAt.{FaultAt}
use Rattle.parsed_files.specs.declared.faults.FileError.{FileError}
use Rattle.parsed_files.specs.declared.faults.FileError.TheVariants as error
use Rattle.parsed_files.specs.declared.first_faults.FirstFaults.{FirstFaults}
use Rattle.parsed_files.specs.Outcomes.{outcome, bytes_of, placed, fault_place, places_from, file_places}
use Rattle.parsed_files.specs.FirstFaults.{AreFirst, IsTold, AllTold, with_fault, parsed, tree_if_any, trees_of}

-- ---- what is read stands in its source

abbrev one_file : Bor (List ℕ) → SourceFile → ParsedFile
one_file source tree = record { source = source; tree = tree }

abbrev stands : ParsedFile → Type 0
stands f = FileStands f.source.now f.tree

pub one_more_stands : (files after : List ParsedFile) (x : Bor (List ℕ)) (tree : SourceFile) → All (λ f. FileStands f.source.now f.tree) files → FileStands x.now tree
    → after ≡ files ++ record { source = x; tree = tree } ∷ [] → All (λ f. FileStands f.source.now f.tree) after
one_more_stands files after x tree h k e = subst (All stands) (sym e) (All-append stands files (one_file x tree ∷ []) h (All-cons stands (one_file x tree) [] k (All-nil stands)))

-- ---- what is told

-- what was found under a code goes on to the first of all files
abbrev GoesOn : List (Bor (List ℕ)) → ℕ → Code → Option (Found FileFault) → Type 0
GoesOn xs i c found = earlier found (least (places_from c i (bytes_of (drop i xs)))) ≡ least (file_places (bytes_of xs) c)

-- so many files were read
pub record Going (xs : List (Bor (List ℕ))) (i : ℕ) (files : List ParsedFile) (first : FirstFaults) : Type 0 where
  pub trees : map parsed files ++ trees_of (bytes_of (drop i xs)) ≡ trees_of (bytes_of xs)
  pub lex : GoesOn xs i code.Lex first.lex
  pub syntax : GoesOn xs i code.Syntax first.syntax
  pub left_out : GoesOn xs i code.LeftOut first.left_out
  pub told : AllTold (bytes_of (drop i xs)) → AllTold (bytes_of xs)

module _ (xs : List (Bor (List ℕ))) (i : ℕ) (x d : Bor (List ℕ)) where
  more_trees : i < length xs → x ≡ get_or xs i d → trees_of (bytes_of (drop i xs)) ≡ tree_if_any x.now (outcome x.now) ++ trees_of (bytes_of (drop (suc i) xs))
  more_trees inside item = ap (λ ys. trees_of (bytes_of ys)) (drop-cons xs i d inside ∙ ap (λ y. y ∷ drop (suc i) xs) (sym item))

  more_places : (c : Code) → i < length xs → x ≡ get_or xs i d
      → places_from c i (bytes_of (drop i xs)) ≡ fault_place c i (outcome x.now) ++ places_from c (suc i) (bytes_of (drop (suc i) xs))
  more_places c inside item = ap (λ ys. places_from c i (bytes_of ys)) (drop-cons xs i d inside ∙ ap (λ y. y ∷ drop (suc i) xs) (sym item))

  one_told : i < length xs → x ≡ get_or xs i d → IsTold (outcome x.now) → (AllTold (bytes_of (drop i xs)) → AllTold (bytes_of xs)) → AllTold (bytes_of (drop (suc i) xs)) → AllTold (bytes_of xs)
  one_told inside item this going rest = going (subst (λ ys. AllTold (bytes_of ys)) (sym (drop-cons xs i d inside ∙ ap (λ y. y ∷ drop (suc i) xs) (sym item))) (this, rest))

  -- a file without a place under the code
  passed : (c : Code) (found : Option (Found FileFault)) (o : Result SourceFile FileError) → i < length xs → x ≡ get_or xs i d → outcome x.now ≡ o → fault_place c i o ≡ []
      → GoesOn xs i c found → GoesOn xs (suc i) c found
  passed c found o inside item is none going =
      ap (λ k. earlier found (least k)) (sym (more_places c inside item ∙ ap (λ k. fault_place c i k ++ places_from c (suc i) (bytes_of (drop (suc i) xs))) is
      ∙ ap (λ k. k ++ places_from c (suc i) (bytes_of (drop (suc i) xs))) none)) ∙ going

  -- a file with one
  found_one : (c : Code) (found : Option (Found FileFault)) (o : Result SourceFile FileError) (p : Found FileFault) → i < length xs → x ≡ get_or xs i d → outcome x.now ≡ o → fault_place c i o ≡ p ∷ []
      → GoesOn xs i c found → GoesOn xs (suc i) c (earlier found (Some p))
  found_one c found o p inside item is one going =
      let rest = places_from c (suc i) (bytes_of (drop (suc i) xs)) in
      earlier_assoc found (Some p) (least rest)
      ∙ ap (λ k. earlier found (least k)) (sym (more_places c inside item ∙ ap (λ k. fault_place c i k ++ rest) is ∙ ap (λ k. k ++ rest) one)) ∙ going

  pub tree_turn : (files after : List ParsedFile) (first : FirstFaults) (tree : SourceFile) → Going xs i files first → i < length xs → x ≡ get_or xs i d
      → outcome x.now ≡ Ok tree → after ≡ files ++ record { source = x; tree = tree } ∷ [] → Going xs (i + 1) after first
  tree_turn files after first tree going inside item is step = rw add-one (record {
    trees = ap (λ k. map parsed k ++ rest) step ∙ ap (λ k. k ++ rest) (joined files) ∙ append_assoc (map parsed files) one rest
        ∙ ap (λ k. map parsed files ++ k) (sym (more_trees inside item ∙ ap (λ k. tree_if_any x.now k ++ rest) is)) ∙ going.trees;
    lex = passed code.Lex first.lex (Ok tree) inside item is refl going.lex;
    syntax = passed code.Syntax first.syntax (Ok tree) inside item is refl going.syntax;
    left_out = passed code.LeftOut first.left_out (Ok tree) inside item is refl going.left_out;
    told = one_told inside item (subst IsTold (sym is) tt) going.told;
  })
    where
      rest : List (List ℕ × SourceFile)
      rest = trees_of (bytes_of (drop (suc i) xs))

      one : List (List ℕ × SourceFile)
      one = (x.now, tree) ∷ []

      joined : (fs : List ParsedFile) → map parsed (fs ++ record { source = x; tree = tree } ∷ []) ≡ map parsed fs ++ one
      joined [] = refl
      joined (f ∷ fs) = ap (λ k. parsed f ∷ k) (joined fs)

  no_tree : (files : List ParsedFile) (e : FileError) → i < length xs → x ≡ get_or xs i d → outcome x.now ≡ Err e
      → map parsed files ++ trees_of (bytes_of (drop i xs)) ≡ trees_of (bytes_of xs) → map parsed files ++ trees_of (bytes_of (drop (suc i) xs)) ≡ trees_of (bytes_of xs)
  no_tree files e inside item is going = ap (λ k. map parsed files ++ k) (sym (more_trees inside item ∙ ap (λ k. tree_if_any x.now k ++ trees_of (bytes_of (drop (suc i) xs))) is)) ∙ going

  by_cause : (files : List ParsedFile) (first : FirstFaults) (at : ℕ) (cause : FileFault) → Going xs i files first → i < length xs → x ≡ get_or xs i d
      → outcome x.now ≡ Err (error.Fault (record { at = at; cause = cause })) → Going xs (suc i) files (with_fault first cause (placed i (record { at = at; cause = cause })))
  by_cause files first at (fault.Lex f) going inside item is = record {
    trees = no_tree files _ inside item is going.trees;
    lex = found_one code.Lex first.lex _ _ inside item is refl going.lex;
    syntax = passed code.Syntax first.syntax _ inside item is refl going.syntax;
    left_out = passed code.LeftOut first.left_out _ inside item is refl going.left_out;
    told = one_told inside item (subst IsTold (sym is) tt) going.told;
  }
  by_cause files first at fault.Unexpected going inside item is = record {
    trees = no_tree files _ inside item is going.trees;
    lex = passed code.Lex first.lex _ inside item is refl going.lex;
    syntax = found_one code.Syntax first.syntax _ _ inside item is refl going.syntax;
    left_out = passed code.LeftOut first.left_out _ inside item is refl going.left_out;
    told = one_told inside item (subst IsTold (sym is) tt) going.told;
  }
  by_cause files first at (fault.LeftOut w) going inside item is = record {
    trees = no_tree files _ inside item is going.trees;
    lex = passed code.Lex first.lex _ inside item is refl going.lex;
    syntax = passed code.Syntax first.syntax _ inside item is refl going.syntax;
    left_out = found_one code.LeftOut first.left_out _ _ inside item is refl going.left_out;
    told = one_told inside item (subst IsTold (sym is) tt) going.told;
  }

  pub fault_turn : (files : List ParsedFile) (first after : FirstFaults) (f : FaultAt) → Going xs i files first → i < length xs → x ≡ get_or xs i d
      → outcome x.now ≡ Err (error.Fault f) → after ≡ with_fault first f.cause (placed i f) → Going xs (i + 1) files after
  fault_turn files first after f going inside item is step = rw (add-one, step) (by_cause files first f.at f.cause going inside item is)

module _ (xs : List (Bor (List ℕ))) (i : ℕ) (files : List ParsedFile) (first : FirstFaults) (going : Going xs i files first) (past : length xs ≤ i) where
  over : drop i xs ≡ []
  over = drop_of_length-le xs past

  pub all_trees : map parsed files ≡ trees_of (bytes_of xs)
  all_trees = sym (append-nil (map parsed files)) ∙ ap (λ ys. map parsed files ++ trees_of (bytes_of ys)) (sym over) ∙ going.trees

  ends : (c : Code) (found : Option (Found FileFault)) → GoesOn xs i c found → found ≡ least (file_places (bytes_of xs) c)
  ends c found goes = sym (earlier_none found) ∙ ap (λ ys. earlier found (least (places_from c i (bytes_of ys)))) (sym over) ∙ goes

  pub all_first : AreFirst (file_places (bytes_of xs)) first
  all_first = record {
    lex = ends code.Lex first.lex going.lex;
    syntax = ends code.Syntax first.syntax going.syntax;
    left_out = ends code.LeftOut first.left_out going.left_out;
  }

  pub all_told : AllTold (bytes_of xs)
  all_told = going.told (subst (λ ys. AllTold (bytes_of ys)) (sym over) tt)
