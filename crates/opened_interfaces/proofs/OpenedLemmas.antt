-- An interface is opened, and an opening begins.
use Rattle.std.proofs.Common.{◌≡◌, ℕ, ◌<◌, List, [], ◌++◌, length, map, ap, sym, subst, ◌∙◌}
use Rattle.std.proofs.lemmas.List.{append-nil}
use Rattle.type_terms.specs.declared.descriptors.Node.{Node}
use Rattle.type_terms.specs.Arenas.{IsArena}
use Rattle.interface_opening.specs.Opening.{term, opened_with, close_items, several_terms, none_opened}
use Rattle.interface_opener.specs.Numbered.{by_number, state, shown}
use Rattle.interface_opener.specs.Stacked.{stacked, element_at, elements_left, open_names}
use Rattle.opened_interfaces.specs.declared.run.Run.{Run}
use Rattle.opened_interfaces.specs.declared.run.Met.{Met}
use Rattle.opened_interfaces.specs.Calls.{Runs, IsMet, IsBegun, IsOpened}
use Rattle.opened_interfaces.specs.Meant.{known_meant, due_meant, IsWithin, AreDue}
use Rattle.opened_interfaces.proofs.TieLemmas.{opened_tied, inside_tied, top_tied}
use Rattle.opened_interfaces.proofs.WithinLemmas.{opened_within, held_embedded, inside_due, elements_open, terms_due, element_there, top_open}

module _ (nodes : List Node) (arena : IsArena nodes) where
  pub met_opened : (old : Run) (x : Met) (new : Run) → Runs (length nodes) old → IsMet (length nodes) old x
      → stacked new.tasks.items ≡ elements_left nodes x.ty x.held.embedded.items ++ (close_items by_number x.name ++ stacked old.tasks.items)
      → state new.found ≡ opened_with by_number x.ty (shown x.held) (state old.found)
      → new.entered.keys ≡ open_names (close_items by_number x.name ++ stacked old.tasks.items) → IsOpened nodes old x new
  met_opened old x new runs met tasks found entered =
      let embedded = held_embedded (length nodes) x.held met.held in
      record {
        runs = record {
          known = subst (IsWithin (length nodes)) (sym found) (opened_within (length nodes) x.ty x.held (state old.found) met.there met.held runs.known);
          due = subst (AreDue (length nodes)) (sym tasks) (inside_due nodes arena x.ty x.name x.held.embedded.items (stacked old.tasks.items) met.there embedded runs.due);
          open_is = entered ∙ sym (elements_open nodes x.ty x.held.embedded.items (close_items by_number x.name ++ stacked old.tasks.items)) ∙ ap open_names (sym tasks);
        };
        known = λ entries names. ap (known_meant nodes) found ∙ sym (opened_tied nodes arena entries names x.ty x.name x.held (state old.found) runs.known.marked met.there);
        due = λ entries names. ap (due_meant nodes) tasks ∙ inside_tied nodes arena entries names x.ty x.name x.held (stacked old.tasks.items) embedded;
      }

  pub node_begun : (node : ℕ) → node < length nodes → (run : Run)
      → stacked run.tasks.items ≡ map (term node (several_terms by_number (element_at nodes node))) (element_at nodes node) ++ []
      → state run.found ≡ none_opened → run.entered.keys ≡ [] → IsBegun nodes node run
  node_begun node there run tasks known entered =
      let items = map (term node (several_terms by_number (element_at nodes node))) (element_at nodes node) in
      let all : stacked run.tasks.items ≡ items = tasks ∙ append-nil items in
      record {
        runs = record {
          known = subst (IsWithin (length nodes)) (sym known) (record { types = tt; methods = tt; marked = tt; events = tt });
          due = subst (AreDue (length nodes)) (sym all)
              (terms_due (length nodes) node (several_terms by_number (element_at nodes node)) (element_at nodes node) there (element_there nodes arena node there));
          open_is = entered ∙ sym (top_open node (several_terms by_number (element_at nodes node)) (element_at nodes node)) ∙ ap open_names (sym all);
        };
        known = known;
        due = λ entries names. ap (due_meant nodes) all ∙ top_tied nodes arena entries names node there;
      }
