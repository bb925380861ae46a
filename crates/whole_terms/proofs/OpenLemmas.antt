-- What a node gives way to answers as the node does.
use Rattle.std.proofs.Common.{◌≡◌, ℕ, ◌<◌, ◌==◌, zero, suc, Bool, true, false, cond, ◌&&◌, List, [], ◌∷◌, ◌++◌, map, length, drop, slice_get, reverse, Option, Some, None, Err, refl, ap, sym, subst, ◌∙◌, arith, append_assoc, nat_eq}
use Rattle.std.specs.Prelude.{Result, Ok}
use Rattle.std.specs.List.{flat_map, AllByRecursion}
use Rattle.std.proofs.lemmas.List.{length-map}
use Rattle.go_values.specs.declared.positions.Pos.{Pos}
use Rattle.go_values.specs.declared.qualified.QName.{QName}
use Rattle.type_terms.specs.declared.literals.IMethod.{IMethod}
use Rattle.type_terms.specs.declared.descriptors.Node.{Node}
use Rattle.type_terms.specs.declared.descriptors.Node.TheVariants.{Predeclared, Named, Param, AliasName, Pointer, Slice}
use Rattle.type_terms.specs.declared.descriptors.Node.TheVariants.{Array, Chan, MapOf, FuncOf, StructOf, Iface, Instance, Union}
use Rattle.type_terms.specs.Arenas.{AllBelow}
use Rattle.type_terms.specs.Denotation.{tree}
use Rattle.type_terms.specs.Names.{alias_name}
use Rattle.type_terms.specs.NodeShapes.{node_shape, children}
use Rattle.type_terms.specs.Parts.{parts}
use Rattle.type_terms.specs.Replaced.{all_left}
use Rattle.type_terms.specs.Shapes.{retype, shape_types, MethodOf}
use Rattle.type_terms.specs.ShapeLaws.{shape_types_map}
use Rattle.type_terms.specs.Trees.{Text, Tree, alias, instance, interface, Methods, types_of, methods_of, tree_of, type_list}
use Rattle.type_terms.specs.TreeLevels.{level_of-tree_of, types_back}
use Rattle.type_terms.specs.TreeEquality.{same_name}
use Rattle.type_sets.specs.RightSides.{passed_on}
use Rattle.type_sets.specs.TermTests.{Tested, fine, both, all_fine, on_base, holds, all_hold}
use Rattle.term_tests.proofs.ListLemmas.{both_fine, drop_next, drop_all}
use Rattle.whole_terms.specs.declared.breaches.Breach.{Breach}
use Rattle.whole_terms.specs.declared.looking.Task.{Task}
use Rattle.whole_terms.specs.declared.looking.Task.TheVariants.{Visit, Look, Stop}
use Rattle.whole_terms.specs.Tables.{Told, Table, by_table, used, looked, ended, fault_of, wrong_use}
use Rattle.whole_terms.specs.Looks.{answer, argument_task, breach_task, use_tasks, instance_tasks, interface_tasks, AreLower, Opens}
use Rattle.whole_terms.proofs.TestLemmas.{map_append, all_mapped}
use Rattle.whole_terms.proofs.HoldsLemmas.{all_held, IsPlain, by_parts}

-- Tasks stand below a node.

visits_lower : (id : ℕ) (ids : List ℕ) → AllBelow id ids → AreLower id (map Visit ids)
visits_lower id [] all = tt
visits_lower id (x ∷ xs) all = (all.0, visits_lower id xs all.1)

pub lower_append : (id : ℕ) (xs ys : List Task) → AreLower id xs → AreLower id ys → AreLower id (xs ++ ys)
lower_append id [] ys first second = second
lower_append id (Visit other ∷ xs) ys first second = (first.0, lower_append id xs ys first.1 second)
lower_append id (Look q ∷ xs) ys first second = lower_append id xs ys first second
lower_append id (Stop breach ∷ xs) ys first second = lower_append id xs ys first second

lower_when : (b : Bool) (id arg : ℕ) (rest : List Task) → arg < id → AreLower id rest → AreLower id (cond b (Visit arg ∷ []) rest)
lower_when true id arg rest below all = (below, tt)
lower_when false id arg rest below all = all

argument_lower : (id : ℕ) (ps : List QName) (args : List ℕ) (q : QName) → AllBelow id args → AreLower id (argument_task ps args q)
argument_lower id [] args q all = tt
argument_lower id (p ∷ ps) [] q all = tt
argument_lower id (p ∷ ps) (arg ∷ args) q all = lower_when (same_name q p) id arg (argument_task ps args q) all.0 (argument_lower id ps args q all.1)

arguments_lower : (id : ℕ) (ps : List QName) (args : List ℕ) (looks : List QName) → AllBelow id args → AreLower id (flat_map (argument_task ps args) looks)
arguments_lower id ps args [] all = tt
arguments_lower id ps args (q ∷ qs) all = lower_append id (argument_task ps args q) (flat_map (argument_task ps args) qs) (argument_lower id ps args q all) (arguments_lower id ps args qs all)

breach_lower : (id : ℕ) (breach : Option Breach) → AreLower id (breach_task breach)
breach_lower id None = tt
breach_lower id (Some breach) = tt

use_lower : (id : ℕ) (q : QName) (o : Option Told) (args : List ℕ) → AllBelow id args → AreLower id (use_tasks q o args)
use_lower id q None args all = tt
use_lower id q (Some told) args all = by (length args == length told.names)
  where
    by : (b : Bool) → AreLower id (cond b (flat_map (argument_task told.names args) told.looks ++ breach_task told.breach) (Stop (wrong_use q (length told.names) (length args)) ∷ []))
    by true = lower_append id (flat_map (argument_task told.names args) told.looks) (breach_task told.breach) (arguments_lower id told.names args told.looks all) (breach_lower id told.breach)
    by false = tt

module _ (nodes : List Node) (table : Table) where
  module _ (given : QName → Tested) where
    abbrev answers_of : List Task → Tested
    answers_of tasks = all_fine (map (answer nodes table given) tasks)

    abbrev node_holds : ℕ → Tested
    node_holds id = holds (by_table table) given (tree nodes id)

    -- what is put for an alias answers as it is told
    means_when : (b : Bool) (arg : ℕ) (rest : List Task) (other : Tested) → answers_of rest ≡ other
        → answers_of (cond b (Visit arg ∷ []) rest) ≡ cond b (node_holds arg) other
    means_when true arg rest other is = both_fine (node_holds arg)
    means_when false arg rest other is = is

    argument_means : (ps : List QName) (args : List ℕ) (q : QName) → answers_of (argument_task ps args q) ≡ passed_on Err (λ p. fine) ps (map node_holds args) q
    argument_means [] args q = refl
    argument_means (p ∷ ps) [] q = refl
    argument_means (p ∷ ps) (arg ∷ args) q =
        means_when (same_name q p) arg (argument_task ps args q) (passed_on Err (λ p. fine) ps (map node_holds args) q) (argument_means ps args q)

    arguments_mean : (ps : List QName) (args : List ℕ) (looks : List QName)
        → answers_of (flat_map (argument_task ps args) looks) ≡ all_fine (map (passed_on Err (λ p. fine) ps (map node_holds args)) looks)
    arguments_mean ps args [] = refl
    arguments_mean ps args (q ∷ qs) =
        all_mapped (answer nodes table given) (argument_task ps args q) (flat_map (argument_task ps args) qs)
        ∙ (λ i. both (argument_means ps args q i) (arguments_mean ps args qs i))

    breach_means : (breach : Option Breach) → answers_of (breach_task breach) ≡ ended breach
    breach_means None = refl
    breach_means (Some breach) = refl

    use_means : (q : QName) (o : Option Told) (args : List ℕ) → answers_of (use_tasks q o args) ≡ used q o (map node_holds args)
    use_means q None args = refl
    use_means q (Some told) args = by (length args == length told.names) ∙ ap (λ n. cond (n == length told.names) right (Err (fault_of (wrong_use q (length told.names) n)))) (sym (length-map args node_holds))
      where
        right : Tested
        right = looked (passed_on Err (λ p. fine) told.names (map node_holds args)) told.looks told.breach

        by : (b : Bool) → answers_of (cond b (flat_map (argument_task told.names args) told.looks ++ breach_task told.breach) (Stop (wrong_use q (length told.names) (length args)) ∷ []))
            ≡ cond b (looked (passed_on Err (λ p. fine) told.names (map node_holds args)) told.looks told.breach) (Err (fault_of (wrong_use q (length told.names) (length args))))
        by true =
            all_mapped (answer nodes table given) (flat_map (argument_task told.names args) told.looks) (breach_task told.breach)
            ∙ (λ i. both (arguments_mean told.names args told.looks i) (breach_means told.breach i))
        by false = refl

    visits_mean : (ids : List ℕ) → answers_of (map Visit ids) ≡ all_fine (map node_holds ids)
    visits_mean [] = refl
    visits_mean (id ∷ ids) = ap (both (node_holds id)) (visits_mean ids)

    mapped_again : (ids : List ℕ) → map (holds (by_table table) given) (map (tree nodes) ids) ≡ map node_holds ids
    mapped_again [] = refl
    mapped_again (id ∷ ids) = ap (λ l. node_holds id ∷ l) (mapped_again ids)

    args_held : (args : List ℕ) → all_hold (by_table table) given (types_of (map (tree nodes) args)) ≡ map node_holds args
    args_held args = all_held (by_table table) given (types_of (map (tree nodes) args)) ∙ ap (map (holds (by_table table) given)) (types_back (map (tree nodes) args)) ∙ mapped_again args

    base_means : (base : Tree) (args : List ℕ) → answers_of (instance_tasks table (alias_name base) args) ≡ on_base (by_table table) base (map node_holds args)
    base_means (alias q) args = use_means q (table q) args
    base_means _ args = visits_mean args

  module _ (id : ℕ) (node : Node) (denotes : tree nodes id ≡ tree_of (retype (tree nodes) (node_shape node))) (falls : AllBelow id (children node)) (old new : List Task) where
    types_are : parts (tree nodes id) ≡ map (tree nodes) (children node)
    types_are = ap parts denotes ∙ ap shape_types (level_of-tree_of (retype (tree nodes) (node_shape node)))
        ∙ shape_types_map (λ (p : Pos). p) (λ (s : Text). s) (λ (q : Text). q) (tree nodes) (node_shape node)

    pub opens_parts : IsPlain (by_table table) (λ q. fine) (tree_of (retype (tree nodes) (node_shape node))) → new ≡ map Visit (children node) ++ old → Opens nodes table id old new
    opens_parts plain is = record {
      news = map Visit (children node);
      are = is;
      means = λ given.
          visits_mean given (children node) ∙ ap all_fine (sym (mapped_again given (children node)))
          ∙ ap (λ ts. all_fine (map (holds (by_table table) given) ts)) (sym types_are)
          ∙ sym (by_parts (by_table table) given (tree nodes id) (subst (IsPlain (by_table table) (λ q. fine)) (sym denotes) plain));
      lower = visits_lower id (children node) falls;
    }

    pub opens_look : (q : QName) → node ≡ Param q → new ≡ Look q ∷ old → Opens nodes table id old new
    opens_look q is are = record {
      news = Look q ∷ [];
      are = are;
      means = λ given. both_fine (given q) ∙ sym (ap (λ (n : Node). holds (by_table table) given (tree_of (retype (tree nodes) (node_shape n)))) is) ∙ ap (holds (by_table table) given) (sym denotes);
      lower = tt;
    }

    pub opens_alias : (q : QName) → node ≡ AliasName q → new ≡ use_tasks q (table q) [] ++ old → Opens nodes table id old new
    opens_alias q is are = record {
      news = use_tasks q (table q) [];
      are = are;
      means = λ given. use_means given q (table q) [] ∙ sym (ap (λ (n : Node). holds (by_table table) given (tree_of (retype (tree nodes) (node_shape n)))) is) ∙ ap (holds (by_table table) given) (sym denotes);
      lower = use_lower id q (table q) [] tt;
    }

    pub opens_instance : (base : ℕ) (args : List ℕ) → node ≡ Instance base args → new ≡ instance_tasks table (alias_name (tree nodes base)) args ++ old → Opens nodes table id old new
    opens_instance base args is are = record {
      news = instance_tasks table (alias_name (tree nodes base)) args;
      are = are;
      means = λ given. base_means given (tree nodes base) args
          ∙ ap (on_base (by_table table) (tree nodes base)) (sym (args_held given args))
          ∙ sym (ap (λ (n : Node). holds (by_table table) given (tree_of (retype (tree nodes) (node_shape n)))) is) ∙ ap (holds (by_table table) given) (sym denotes);
      lower = by (alias_name (tree nodes base)) (all_left (λ n. n < id) args (base ∷ []) (subst (λ (n : Node). AllBelow id (children n)) is falls));
    }
      where
        by : (o : Option QName) → AllBelow id args → AreLower id (instance_tasks table o args)
        by None all = visits_lower id args all
        by (Some q) all = use_lower id q (table q) args all

    pub opens_interface : (home : List ℕ) (embedded : List ℕ) (own : List IMethod) → node ≡ Iface home embedded own
        → new ≡ interface_tasks (length embedded) (length own) ++ old → Opens nodes table id old new
    opens_interface home embedded own is are = record {
      news = interface_tasks (length embedded) (length own);
      are = are;
      means = λ given. interface_means given embedded own
          ∙ sym (ap (λ (n : Node). holds (by_table table) given (tree_of (retype (tree nodes) (node_shape n)))) is) ∙ ap (holds (by_table table) given) (sym denotes);
      lower = lower_interface embedded own;
    }
      where
        lower_interface : (es : List ℕ) (ms : List IMethod) → AreLower id (interface_tasks (length es) (length ms))
        lower_interface [] [] = tt
        lower_interface [] (m ∷ ms) = tt
        lower_interface (e ∷ es) ms = tt

        interface_means : (given : QName → Tested) (es : List ℕ) (ms : List IMethod) → all_fine (map (answer nodes table given) (interface_tasks (length es) (length ms)))
            ≡ holds (by_table table) given (tree_of (retype (tree nodes) (node_shape (Iface home es ms))))
        interface_means given [] [] = refl
        interface_means given [] (m ∷ ms) = refl
        interface_means given (e ∷ es) ms = refl

    pub plain_when : ((q : QName) → node ≡ Param q → ⊥) → ((q : QName) → node ≡ AliasName q → ⊥) → ((base : ℕ) (args : List ℕ) → node ≡ Instance base args → ⊥)
        → ((home : List ℕ) (embedded : List ℕ) (own : List IMethod) → node ≡ Iface home embedded own → ⊥)
        → IsPlain (by_table table) (λ q. fine) (tree_of (retype (tree nodes) (node_shape node)))
    plain_when no_parameter no_alias no_instance no_interface = by node refl
      where
        by : (n : Node) → node ≡ n → IsPlain (by_table table) (λ q. fine) (tree_of (retype (tree nodes) (node_shape node)))
        by (Param q) is = absurd (no_parameter q is)
        by (AliasName q) is = absurd (no_alias q is)
        by (Instance base args) is = absurd (no_instance base args is)
        by (Iface home embedded own) is = absurd (no_interface home embedded own is)
        by (Predeclared basic) is = subst (λ (n : Node). IsPlain (by_table table) (λ q. fine) (tree_of (retype (tree nodes) (node_shape n)))) (sym is) tt
        by (Named q) is = subst (λ (n : Node). IsPlain (by_table table) (λ q. fine) (tree_of (retype (tree nodes) (node_shape n)))) (sym is) tt
        by (Pointer type) is = subst (λ (n : Node). IsPlain (by_table table) (λ q. fine) (tree_of (retype (tree nodes) (node_shape n)))) (sym is) tt
        by (Slice type) is = subst (λ (n : Node). IsPlain (by_table table) (λ q. fine) (tree_of (retype (tree nodes) (node_shape n)))) (sym is) tt
        by (Array size type) is = subst (λ (n : Node). IsPlain (by_table table) (λ q. fine) (tree_of (retype (tree nodes) (node_shape n)))) (sym is) tt
        by (Chan dir type) is = subst (λ (n : Node). IsPlain (by_table table) (λ q. fine) (tree_of (retype (tree nodes) (node_shape n)))) (sym is) tt
        by (MapOf key type) is = subst (λ (n : Node). IsPlain (by_table table) (λ q. fine) (tree_of (retype (tree nodes) (node_shape n)))) (sym is) tt
        by (FuncOf home sig) is = subst (λ (n : Node). IsPlain (by_table table) (λ q. fine) (tree_of (retype (tree nodes) (node_shape n)))) (sym is) tt
        by (StructOf home inner) is = subst (λ (n : Node). IsPlain (by_table table) (λ q. fine) (tree_of (retype (tree nodes) (node_shape n)))) (sym is) tt
        by (Union inner) is = subst (λ (n : Node). IsPlain (by_table table) (λ q. fine) (tree_of (retype (tree nodes) (node_shape n)))) (sym is) tt
