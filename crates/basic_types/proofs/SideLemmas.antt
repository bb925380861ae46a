-- What stands behind a name that is declared, by its declaration.
use Rattle.std.proofs.Common.{◌≡◌, ℕ, ◌<◌, List, [], ◌∷◌, length, map, Bool, true, false, Option, Some, None, Ok, Err, refl, sym, ap, subst, ◌∙◌}
use Rattle.std.specs.Prelude.{Result, option_map, IfSome}
use Rattle.std.specs.List.{flat_map}
use Rattle.go_values.specs.declared.qualified.QName.{QName}
use Rattle.type_terms.specs.declared.descriptors.Node.{Node}
use Rattle.type_terms.specs.declared.declarations.DeclNode.{DeclNode}
use Rattle.type_terms.specs.declared.declarations.DeclNode.TheVariants.{Var, Func, Constant, Defined, Alias, Parameter}
use Rattle.type_terms.specs.Arenas.{Contents, AllBelow}
use Rattle.type_terms.specs.Declarations.{decl_form, decl_nodes, decl_of, receiver_types, receiver_shape}
use Rattle.type_terms.specs.Denotation.{tree}
use Rattle.type_terms.specs.Replaced.{all_right}
use Rattle.type_terms.specs.Trees.{Tree}
use Rattle.environments.specs.declared.declaring.EnvError.{EnvError}
use Rattle.environments.specs.declared.declaring.EnvError.TheVariants.{Unknown, Damaged, TableFull, Nodes, OutOfMemory}
use Rattle.environments.specs.declared.given.Given.{Given}
use Rattle.environments.specs.Environments.{Entry, given_decl, Answers}
use Rattle.basic_types.specs.BasicTypes.{Entries, head_name, side_of, side_behind}
use Rattle.basic_types.specs.Calls.{GivesSide, Ends, no_type, again, Stops, Turns, Meets}

side_meant : (nodes : List Node) (decl : DeclNode) → side_of (decl_of nodes decl) ≡ option_map (tree nodes) (side_of (decl_form decl))
side_meant nodes (Var pos ty) = refl
side_meant nodes (Func pos tparams sig) = refl
side_meant nodes (Constant pos ty value) = refl
side_meant nodes (Defined pos tparams underlying methods) = refl
side_meant nodes (Alias pos tparams ty) = refl
side_meant nodes (Parameter pos implicit constraint) = refl

side_inside : (n : ℕ) (decl : DeclNode) → AllBelow n (decl_nodes decl) → IfSome (side_of (decl_form decl)) (λ id. id < n)
side_inside n (Var pos ty) below = tt
side_inside n (Func pos tparams sig) below = tt
side_inside n (Constant pos ty value) below = tt
side_inside n (Defined pos tparams underlying methods) below =
    (all_right (λ id. id < n) tparams (underlying ∷ flat_map receiver_types (map receiver_shape methods)) below).0
side_inside n (Alias pos tparams ty) below = (all_right (λ id. id < n) tparams (ty ∷ []) below).0
side_inside n (Parameter pos implicit constraint) below = tt

pub gives_side : (entry : Option Entry) (q : QName) (arena : Contents) (full : Option Bool) (given : Given) (decl : DeclNode) (side : Option ℕ)
    → Answers entry q arena full (Ok given) → decl ≡ given_decl given → side ≡ side_of (decl_form decl)
    → GivesSide entry q arena full (Ok side)
gives_side entry q arena full given decl side answers is made =
    let same = made ∙ ap (λ d. side_of (decl_form d)) is in (
      (decl_of arena.nodes (given_decl given), answers.0),
      ap side_behind answers.0 ∙ side_meant arena.nodes (given_decl given) ∙ ap (option_map (tree arena.nodes)) (sym same),
      subst (λ o. IfSome o (λ id. id < length arena.nodes)) (sym same) (side_inside (length arena.nodes) (given_decl given) answers.1),
    )

module _ (entries : Entries) (old : List QName) (type : Tree) (q : QName) (head : head_name type ≡ Some q) where
  pub met_again : (new : List QName) → Meets old q new false → Ends entries old type
  met_again new meets = again q head meets.was

  stops_by : (arena : Contents) (full : Option Bool) (fault : EnvError) → Answers (entries q) q arena full (Err fault)
      → Stops entries type arena full fault
  stops_by arena full OutOfMemory is = tt
  stops_by arena full Nodes is = (q, head, is)
  stops_by arena full TableFull is = (q, head, is)
  stops_by arena full (Unknown name) is = (q, head, is)
  stops_by arena full (Damaged name fault) is = (q, head, is)

  pub turns_by : (new : List QName) → Meets old q new true → (arena : Contents) (full : Option Bool) (result : Result (Option ℕ) EnvError)
      → GivesSide (entries q) q arena full result → Turns entries old type new arena full result
  turns_by new meets arena full (Ok None) gives = no_type q head gives.0 gives.1
  turns_by new meets arena full (Ok (Some id)) gives = (
    record {
      head = q;
      head_is = head;
      fresh = meets.was;
      met = meets.added refl;
      is_declared = gives.0;
      side_is = gives.1;
    },
    gives.2,
  )
  turns_by new meets arena full (Err fault) is = stops_by arena full fault is
