-- Steps that are left, and what each of them does.
use Rattle.std.proofs.Common.{◌≡◌, ℕ, ◌<◌, Bool, true, false, cond, List, [], ◌∷◌, ◌++◌, length, map, refl, ap, sym, subst, ◌∙◌, arith, append_assoc, append-nil}
use Rattle.std.specs.Prelude.{not, ◌||◌, slice_index_or}
use Rattle.std.specs.List.{AllByRecursion, flat_map}
use Rattle.std.proofs.lemmas.List.Concat.{flat_map-append}
use Rattle.go_values.specs.declared.positions.Pos.{Pos}
use Rattle.wire_bytes.specs.Section.{with_text}
use Rattle.position_codec.specs.Place.{Place, place_of, no_place}
use Rattle.type_terms.specs.declared.descriptors.Node.{Node}
use Rattle.type_terms.specs.Arenas.{AllBelow}
use Rattle.type_terms.specs.Denotation.{tree}
use Rattle.type_terms.specs.NodeShapes.{node_shape, children}
use Rattle.type_terms.specs.Replaced.{all_left, all_right, all_append}
use Rattle.type_terms.specs.Shapes.{retype}
use Rattle.type_terms.specs.ShapeLaws.{shape_types_map}
use Rattle.type_terms.specs.TreeLevels.{level_of-tree_of}
use Rattle.type_terms.specs.TreeSizes.{size_of_parts}
use Rattle.type_terms.specs.Trees.{Text, Tree, level_of, tree_of}
use Rattle.file_envelope.specs.FileBytes.{text_number}
use Rattle.file_layout.specs.Items.{Item, a_number, a_flag, a_text, a_path, a_position, a_type, a_whole, level_items}
use Rattle.file_layout.specs.Bytes.{same_file, path_text}
use Rattle.file_layout.specs.Walk.{says, tells, is_made}
use Rattle.file_layout.proofs.ItemTypes.{items_types, level_types}
use Rattle.block_writer.specs.declared.items.Item.{Item as Put}
use Rattle.block_writer.specs.declared.items.Item.TheVariants as put
use Rattle.block_writer.specs.Adding.{meant, Adds}
use Rattle.block_writer.proofs.Types.{ids, ids_are, meant_types}
use Rattle.block_walk.specs.declared.section.Section.{Section}
use Rattle.block_walk.specs.declared.steps.Step.{Step as Todo}
use Rattle.block_walk.specs.declared.steps.Step.TheVariants as todo
use Rattle.block_walk.specs.Steps.{Step, say, tell, meet, finish, items_steps, type_steps}
use Rattle.block_walk.specs.StepsMeant.{meant_step, AddsSteps}
use Rattle.block_walk.specs.Going.{Out, with_path, with_event, is_settled, went, after}
use Rattle.block_walk.specs.Standing.{Stands, HasRoom, IsThere, left_steps, step_ids, AreThere, Goes}
use Rattle.block_walk.specs.Entering.{is_marked, Enters, Piles}
use Rattle.block_walk.specs.Weights.{step_weight, steps_weight}
use Rattle.block_walk.proofs.BoundLemmas.{with_both, went_unfolds}
use Rattle.block_walk.proofs.FinishLemmas.{texts_grow, sized, size_of, below_weaker}
use Rattle.block_walk.proofs.WeightLemmas.{weight_both, steps_lighter}

-- ---- lists of steps

pub left_push : (type : ℕ → Tree) (xs : List Todo) (x : Todo) → left_steps type (xs ++ x ∷ []) ≡ meant_step type x ∷ left_steps type xs
left_push type [] x = refl
left_push type (z ∷ zs) x = ap (λ ss. ss ++ meant_step type z ∷ []) (left_push type zs x)

ids_both : (xs ys : List Todo) → flat_map step_ids (xs ++ ys) ≡ flat_map step_ids xs ++ flat_map step_ids ys
ids_both xs ys = flat_map-append step_ids xs ys

pub there_both : (nodes : List Node) (xs ys : List Todo) → AreThere nodes xs → AreThere nodes ys → AreThere nodes (xs ++ ys)
there_both nodes xs ys first second = subst (AllBelow (length nodes)) (sym (ids_both xs ys)) (all_append (λ n. n < length nodes) (flat_map step_ids xs) (flat_map step_ids ys) first second)

pub there_front : (nodes : List Node) (xs ys : List Todo) → AreThere nodes (xs ++ ys) → AreThere nodes xs
there_front nodes xs ys all = all_left (λ n. n < length nodes) (flat_map step_ids xs) (flat_map step_ids ys) (subst (AllBelow (length nodes)) (ids_both xs ys) all)

pub there_last : (nodes : List Node) (xs ys : List Todo) → AreThere nodes (xs ++ ys) → AreThere nodes ys
there_last nodes xs ys all = all_right (λ n. n < length nodes) (flat_map step_ids xs) (flat_map step_ids ys) (subst (AllBelow (length nodes)) (ids_both xs ys) all)

-- ---- piles

pub no_pile : (steps old : List Todo) → steps ≡ [] → Piles steps old old
no_pile steps old none = record {
  are = λ type. ap (λ xs. map (meant_step type) xs ++ left_steps type old) (sym none);
  there = λ nodes first second. second;
}

map_last : (type : ℕ → Tree) (xs : List Todo) (x : Todo) → map (meant_step type) (xs ++ x ∷ []) ≡ map (meant_step type) xs ++ meant_step type x ∷ []
map_last type [] x = refl
map_last type (z ∷ zs) x = ap (λ ss. meant_step type z ∷ ss) (map_last type zs x)

pub pile_more : (steps rest old new : List Todo) (x : Todo) → steps ≡ rest ++ x ∷ [] → Piles rest (old ++ x ∷ []) new → Piles steps old new
pile_more steps rest old new x is piles = record {
  are = λ type.
      piles.are type
      ∙ ap (λ ss. map (meant_step type) rest ++ ss) (left_push type old x)
      ∙ sym (append_assoc (map (meant_step type) rest) (meant_step type x ∷ []) (left_steps type old))
      ∙ ap (λ ss. ss ++ left_steps type old) (sym (map_last type rest x) ∙ ap (map (meant_step type)) (sym is));
  there = λ nodes first second.
      let all = subst (AreThere nodes) is first in
      piles.there nodes (there_front nodes rest (x ∷ []) all) (there_both nodes old (x ∷ []) second (there_last nodes rest (x ∷ []) all));
}

-- ---- a type that is entered

sizes : (xs : List ℕ) → map size_of (map sized xs) ≡ xs
sizes [] = refl
sizes (x ∷ xs) = ap (λ rest. x ∷ rest) (sizes xs)

abbrev step_types : Step → List Tree
step_types (meet type) = type ∷ []
step_types (finish type) = type ∷ []
step_types _ = []

met_types : (type : ℕ → Tree) (xs : List Todo) → flat_map step_types (map (meant_step type) xs) ≡ map type (flat_map step_ids xs)
met_types type [] = refl
met_types type (todo.Say text ∷ xs) = met_types type xs
met_types type (todo.Tell path ∷ xs) = met_types type xs
met_types type (todo.Meet id ∷ xs) = ap (λ ts. type id ∷ ts) (met_types type xs)
met_types type (todo.Finish id ∷ xs) = ap (λ ts. type id ∷ ts) (met_types type xs)

items_met : (before : Place) (xs : List Item) → flat_map step_types (items_steps before xs) ≡ items_types xs
items_met before [] = refl
items_met before (a_number n ∷ xs) = items_met before xs
items_met before (a_flag x ∷ xs) = items_met before xs
items_met before (a_text text ∷ xs) = items_met before xs
items_met before (a_path path ∷ xs) = items_met before xs
items_met before (a_position pos ∷ xs) = by (same_file before (place_of pos)) (items_met (place_of pos) xs)
  where
    by : (b : Bool) → flat_map step_types (items_steps (place_of pos) xs) ≡ items_types xs → flat_map step_types (cond b [] (say (place_of pos).file ∷ []) ++ items_steps (place_of pos) xs) ≡ items_types xs
    by true rest = rest
    by false rest = rest
items_met before (a_type type ∷ xs) = ap (λ ts. type ∷ ts) (items_met before xs)
items_met before (a_whole signed max v ∷ xs) = items_met before xs

steps_ids : (steps : List Todo) (items : List Put) → AddsSteps [] steps (λ type. items_steps no_place (map (meant type) items)) → flat_map step_ids steps ≡ ids items
steps_ids steps items adds =
    sym (sizes (flat_map step_ids steps))
    ∙ ap (map size_of) (sym (met_types sized steps) ∙ ap (flat_map step_types) (adds sized) ∙ items_met no_place (map (meant sized) items) ∙ meant_types sized items)
    ∙ sizes (ids items)

pub entered : (nodes : List Node) (id : ℕ) (node : Node) (items : List Put) (steps old new : List Todo) → id < length nodes → tree nodes id ≡ tree_of (retype (tree nodes) (node_shape node)) → AllBelow id (children node)
    → Adds [] items (λ type. level_items (retype type (node_shape node))) → AddsSteps [] steps (λ type. items_steps no_place (map (meant type) items)) → Piles steps (old ++ todo.Finish id ∷ []) new → Enters nodes id old new
entered nodes id node items steps old new there denotes falls adds added piles =
    let type = tree nodes in
    let level : level_items (retype type (node_shape node)) ≡ level_items (level_of (type id)) = ap level_items (sym (ap level_of denotes ∙ level_of-tree_of (retype type (node_shape node)))) in
    let front : map (meant_step type) steps ≡ items_steps no_place (level_items (level_of (type id))) = added type ∙ ap (items_steps no_place) (adds type ∙ level) in
    let own_ids : ids items ≡ children node = ids_are items (children node) (λ kind.
    ap items_types (adds kind) ∙ level_types (retype kind (node_shape node)) ∙ shape_types_map (λ (x : Pos). x) (λ (x : Text). x) (λ (x : Text). x) kind (node_shape node)) in
    let met : AreThere nodes steps = subst (AllBelow (length nodes)) (sym (steps_ids steps items added ∙ own_ids)) (below_weaker id (length nodes) (children node) there falls) in
    record {
      steps =
          piles.are type
          ∙ (λ i. front i ++ left_push type old (todo.Finish id) i)
          ∙ sym (append_assoc (items_steps no_place (level_items (level_of (type id)))) (finish (type id) ∷ []) (left_steps type old));
      there = λ before. piles.there nodes met (there_both nodes old (todo.Finish id ∷ []) before (there, tt));
    }

-- ---- what each step does

module _ (nodes : List Node) (own : Text) where
  pub goes_nowhere : (section : Section) (steps : List Step) → HasRoom nodes section → Goes nodes own section section steps steps
  goes_nowhere section steps room = record { texts = []; grown = sym (append-nil section.strings); room = room; comes = λ more out stands. (out, stands, refl) }

  pub goes_again : (a b c : Section) (xs ys zs : List Step) → Goes nodes own a b xs ys → Goes nodes own b c ys zs → Goes nodes own a c xs zs
  goes_again a b c xs ys zs first second = record {
    texts = first.texts ++ second.texts;
    grown = second.grown ∙ ap (λ (ts : List Text). ts ++ second.texts) first.grown ∙ append_assoc a.strings first.texts second.texts;
    room = second.room;
    comes = λ more out stands.
        let all : b.strings ++ (second.texts ++ more) ≡ c.strings ++ more = sym (append_assoc b.strings second.texts more) ∙ ap (λ (ts : List Text). ts ++ more) (sym second.grown) in
        let begun = first.comes (second.texts ++ more) out stands in
        let done = second.comes more begun.0 begun.1 in
        (done.0, done.1, ap (λ (ts : List Text). after own (text_number ts) out xs) (sym all) ∙ begun.2 ∙ ap (λ (ts : List Text). after own (text_number ts) begun.0 ys) all ∙ done.2);
  }

  one_text : (old : List Text) (t : Text) → (more : List Text) × (with_text old t ≡ old ++ more)
  one_text old t = texts_grow old (t ∷ [])

  pub goes_say : (old : Section) (strings : List Text) (text : Text) → strings ≡ with_text old.strings text → HasRoom nodes old → (left : List Step)
      → Goes nodes own old (record { body = old.body; strings = strings; paths = old.paths; names = old.names; numbers = old.numbers; placed = old.placed }) (say text ∷ left) left
  goes_say old strings text is room left =
      let grows = one_text old.strings text in
      record {
        texts = grows.0;
        grown = is ∙ grows.1;
        room = record { numbers = room.numbers; marks = room.marks };
        comes = λ more out stands. (
          with_event own (text_number (strings ++ more)) out (says text),
          record {
            bytes = stands.bytes;
            texts = is ∙ ap (λ (ts : List Text). with_text ts text) stands.texts;
            paths = stands.paths;
            names = stands.names;
            numbers = stands.numbers;
            placed = stands.placed;
            denoted = stands.denoted;
          },
          refl,
        );
      }

  pub goes_tell : (old new : Section) (path : Text) → new.strings ≡ with_text old.strings (path_text own path) → new.paths.keys ≡ with_path old.paths.keys path → new.body ≡ old.body → new.names ≡ old.names
      → new.numbers ≡ old.numbers → new.placed ≡ old.placed → HasRoom nodes old → (left : List Step) → Goes nodes own old new (tell path ∷ left) left
  goes_tell old new path said told body names numbers placed room left =
      let grows = one_text old.strings (path_text own path) in
      record {
        texts = grows.0;
        grown = said ∙ grows.1;
        room = record { numbers = ap (λ ns. length ns.items) numbers ∙ room.numbers; marks = ap (λ ms. length ms.items) placed ∙ room.marks };
        comes = λ more out stands. (
          with_event own (text_number (new.strings ++ more)) out (tells path),
          record {
            bytes = body ∙ stands.bytes;
            texts = said ∙ ap (λ (ts : List Text). with_text ts (path_text own path)) stands.texts;
            paths = told ∙ ap (λ ps. with_path ps path) stands.paths;
            names = ap (λ ns. ns.keys) names ∙ stands.names;
            numbers = λ id low made. ap (λ ns. slice_index_or ns.items id 0) numbers ∙ stands.numbers id low made;
            placed = λ id low. ap (λ ms. slice_index_or ms.items id false) placed ∙ stands.placed id low;
            denoted = stands.denoted;
          },
          refl,
        );
      }

  -- a type that is met
  settled_is : (section : Section) (out : Out) (id : ℕ) (b : Bool) → Stands nodes section out → id < length nodes → is_marked nodes section id ≡ b → is_settled own (λ text. 0) out (tree nodes id) ≡ b
  settled_is section out id b stands there is = ap (λ placed. not (is_made (tree nodes id)) || placed) (sym (stands.placed id there)) ∙ is

  pub goes_past : (section : Section) (id : ℕ) → HasRoom nodes section → id < length nodes → is_marked nodes section id ≡ true → (left : List Step) → Goes nodes own section section (meet (tree nodes id) ∷ left) left
  goes_past section id room there is left = record {
    texts = [];
    grown = sym (append-nil section.strings);
    room = room;
    comes = λ more out stands.
        let offset = text_number (section.strings ++ more) in
        let settled = settled_is section out id true stands there is in
        let still : went own offset out (tree nodes id) ≡ out = went_unfolds own offset out (tree nodes id) ∙ ap (λ b. cond b out (after own offset out (type_steps (tree nodes id)))) settled in
        (out, stands, ap (λ o. after own offset o left) still);
  }

  pub goes_in : (section : Section) (id : ℕ) → HasRoom nodes section → id < length nodes → is_marked nodes section id ≡ false → (left : List Step) → Goes nodes own section section (meet (tree nodes id) ∷ left) (type_steps (tree nodes id) ++ left)
  goes_in section id room there is left = record {
    texts = [];
    grown = sym (append-nil section.strings);
    room = room;
    comes = λ more out stands.
        let offset = text_number (section.strings ++ more) in
        let settled = settled_is section out id false stands there is in
        let steps = type_steps (tree nodes id) in
        let opened : went own offset out (tree nodes id) ≡ after own offset out steps = went_unfolds own offset out (tree nodes id) ∙ ap (λ b. cond b out (after own offset out steps)) settled in
        (out, stands, ap (λ o. after own offset o left) opened ∙ sym (with_both own offset (went own offset) out steps left));
  }

made_of : (b placed : Bool) → (not b || placed) ≡ false → b ≡ true
made_of true placed e = refl
made_of false placed e = absurd cc

-- ---- weights

pub meet_weighs : (type : Tree) (left : List Step) → steps_weight left < steps_weight (meet type ∷ left)
meet_weighs type left = omega (arith, size_of_parts type)

pub entered_weighs : (nodes : List Node) (section : Section) (id : ℕ) → is_marked nodes section id ≡ false → (left : List Step) → steps_weight (type_steps (tree nodes id) ++ left) < steps_weight (meet (tree nodes id) ∷ left)
entered_weighs nodes section id is left =
    let made = made_of (is_made (tree nodes id)) (slice_index_or section.placed.items id false) is in
    omega (arith, weight_both (type_steps (tree nodes id)) left, steps_lighter (tree nodes id) made)

pub one_weighs : (step : Step) (left : List Step) → step_weight step ≡ 1 → steps_weight left < steps_weight (step ∷ left)
one_weighs step left is = omega (arith, is)

-- ---- the next step

module _ (nodes : List Node) (left : List Todo) (step x : Todo) (is : step ≡ x) where
  pub next_is : left_steps (tree nodes) (left ++ step ∷ []) ≡ meant_step (tree nodes) x ∷ left_steps (tree nodes) left
  next_is = left_push (tree nodes) left step ∙ ap (λ s. meant_step (tree nodes) s ∷ left_steps (tree nodes) left) is

  pub next_goes : (own : Text) (old new : Section) (after : List Step) → Goes nodes own old new (meant_step (tree nodes) x ∷ left_steps (tree nodes) left) after
      → Goes nodes own old new (left_steps (tree nodes) (left ++ step ∷ [])) after
  next_goes own old new after goes = subst (λ ss. Goes nodes own old new ss after) (sym next_is) goes

  pub next_weighs : (n : ℕ) → n < steps_weight (meant_step (tree nodes) x ∷ left_steps (tree nodes) left) → n < steps_weight (left_steps (tree nodes) (left ++ step ∷ []))
  next_weighs n less = subst (λ ss. n < steps_weight ss) (sym next_is) less

  pub next_there : AreThere nodes (left ++ step ∷ []) → AllBelow (length nodes) (step_ids x ++ [])
  next_there all = subst (λ s. AllBelow (length nodes) (step_ids s ++ [])) is (there_last nodes left (step ∷ []) all)

-- ---- items

ids_below : (nodes : List Node) (xs : List Put) → AllByRecursion (IsThere nodes) xs → AllBelow (length nodes) (ids xs)
ids_below nodes [] all = tt
ids_below nodes (put.Number n ∷ xs) all = ids_below nodes xs all.1
ids_below nodes (put.Flag x ∷ xs) all = ids_below nodes xs all.1
ids_below nodes (put.Text text ∷ xs) all = ids_below nodes xs all.1
ids_below nodes (put.Path path ∷ xs) all = ids_below nodes xs all.1
ids_below nodes (put.Position pos ∷ xs) all = ids_below nodes xs all.1
ids_below nodes (put.NoPosition ∷ xs) all = ids_below nodes xs all.1
ids_below nodes (put.Type id ∷ xs) all = (all.0, ids_below nodes xs all.1)

-- the steps of items, once they are piled, are what is left
pub items_left : (nodes : List Node) (items : List Put) (steps left : List Todo) → AddsSteps [] steps (λ type. items_steps no_place (map (meant type) items)) → Piles steps [] left
    → left_steps (tree nodes) left ≡ items_steps no_place (map (meant (tree nodes)) items)
items_left nodes items steps left adds piles = piles.are (tree nodes) ∙ append-nil (map (meant_step (tree nodes)) steps) ∙ adds (tree nodes)

pub items_there : (nodes : List Node) (items : List Put) (steps left : List Todo) → AllByRecursion (IsThere nodes) items → AddsSteps [] steps (λ type. items_steps no_place (map (meant type) items)) → Piles steps [] left → AreThere nodes left
items_there nodes items steps left all adds piles = piles.there nodes (subst (AllBelow (length nodes)) (sym (steps_ids steps items adds)) (ids_below nodes items all)) tt
