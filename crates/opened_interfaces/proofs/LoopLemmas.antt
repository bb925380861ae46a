-- What the two loops of an opening keep.
use Rattle.std.proofs.Common.{◌≡◌, ℕ, suc, Bool, List, [], ◌∷◌, ◌++◌, length, Option, Some, None, Ok, Err, refl, ap, sym, subst, ◌∙◌}
use Rattle.std.specs.Prelude.{Result}
use Rattle.std.proofs.lemmas.List.{map-append}
use Rattle.go_values.specs.declared.qualified.QName.{QName}
use Rattle.environments.specs.OpenedTypes.{AddsAmong}
use Rattle.type_terms.specs.Arenas.{Contents, Extends}
use Rattle.type_terms.specs.Denotation.{tree}
use Rattle.type_terms.specs.Extensions.{extends_tree}
use Rattle.type_terms.specs.Trees.{Tree}
use Rattle.interface_opening.specs.Elements.{Interface, Opened, Looks}
use Rattle.interface_opening.specs.Opening.{Item, term, joins, ends, closes, Step, goes, opens, done, found, step, joining, next, inside, opened_with, opening}
use Rattle.replacement.specs.declared.faults.SetFault.{SetFault}
use Rattle.replacement.specs.declared.faults.SetFault.TheVariants.{TooMany}
use Rattle.replacement.specs.Expansion.{Entries}
use Rattle.replacement.specs.Calls.{Stops}
use Rattle.replacement.proofs.KeptLemmas.{stops_later}
use Rattle.type_sets.specs.Interfaces.{SetMethod as Method}
use Rattle.type_sets.specs.TypeSets.{looks, set_limit}
use Rattle.interface_nodes.specs.declared.methods.SetMethod.{SetMethod}
use Rattle.interface_nodes.specs.HeldNodes.{meant}
use Rattle.interface_opener.specs.Numbered.{state}
use Rattle.interface_opener.specs.Stacked.{stacked}
use Rattle.opened_interfaces.specs.declared.run.Run.{Run}
use Rattle.opened_interfaces.specs.declared.run.Met.{Met}
use Rattle.opened_interfaces.specs.Calls.{GivesStep, GivesNext, left_by}
use Rattle.opened_interfaces.specs.Meant.{item_mapped, known_meant, due_meant, ItemWithin, AreDue}
use Rattle.opened_interfaces.specs.Ways.{ComesTo, here, on, Needs, asks, opened_for, AtItem, OnWay}
use Rattle.opened_interfaces.proofs.GivesLemmas.{same_worlds}
use Rattle.opened_interfaces.proofs.StayLemmas.{due_stays}
use Rattle.opened_interfaces.proofs.WayLemmas.{comes_again, next_on, next_stops, next_opens, next_comes, opening_done, opening_faulty, opening_over, opening_into, way_here, way_later}

module _ (entries : Entries) (names : List QName) where
  abbrev pub look : Looks Tree QName Method SetFault
  look = looks entries names

  -- what is still to be done came from what was at first, with no interface opened
  pub record IsSearching (first : List (Item Tree QName)) (began : Opened Tree Method) (items : List (Item Tree QName)) (s : Opened Tree Method) : Type 0 where
    pub comes : (n : ℕ) → ComesTo look n items s n first began
    pub same : next look first began ≡ next look items s

  pub searching : (first : List (Item Tree QName)) (began : Opened Tree Method) → IsSearching first began first began
  searching first began = record { comes = λ n. here; same = refl }

  -- and here with at most so many interfaces still to be opened
  pub record IsOpening (first : List (Item Tree QName)) (began : Opened Tree Method) (left : ℕ) (items : List (Item Tree QName)) (s : Opened Tree Method) : Type 0 where
    pub comes : ComesTo look left items s set_limit first began
    pub same : opening look set_limit first began ≡ opening look left items s

  -- one item
  module _ (first : List (Item Tree QName)) (began : Opened Tree Method) (before : Contents) (item : Item ℕ QName) (rest : List (Item ℕ QName)) (s : Opened ℕ SetMethod)
      (was : IsSearching first began (due_meant before.nodes (item ∷ rest)) (known_meant before.nodes s)) where
    abbrev pub step_here : Step Tree QName Method SetFault
    step_here = step look (item_mapped (tree before.nodes) item) (due_meant before.nodes rest) (known_meant before.nodes s)

    pub item_needs : {X : Type 0} (needs : Needs X) (n : ℕ) (a : X) → AtItem entries names needs (item_mapped (tree before.nodes) item) a → OnWay entries names needs n first began a
    item_needs needs n a at = way_later entries names needs n n (due_meant before.nodes (item ∷ rest)) first (known_meant before.nodes s) began (was.comes n) a
        (way_here entries names needs n (item_mapped (tree before.nodes) item) (due_meant before.nodes rest) (known_meant before.nodes s) a at)

    -- the same of what an environment means later
    module _ (later : Entries) (more : List QName) (e : later ≡ entries) (n : more ≡ names) where
      pub asked_here : (k : ℕ) (q : QName) → AtItem later more (asks later) (item_mapped (tree before.nodes) item) q → OnWay entries names (asks entries) k first began q
      asked_here k q held = item_needs (asks entries) k q (same_worlds (λ e n. AtItem e n (asks e) (item_mapped (tree before.nodes) item) q) later entries more names e n held)

      pub opened_here : (k : ℕ) (u : Tree) → AtItem later more (opened_for later) (item_mapped (tree before.nodes) item) u → OnWay entries names (opened_for entries) k first began u
      opened_here k u held = item_needs (opened_for entries) k u (same_worlds (λ e n. AtItem e n (opened_for e) (item_mapped (tree before.nodes) item) u) later entries more names e n held)

      pub step_told : (after : Contents) (full : Option Bool) (r : Result (Option Met) SetFault) (run : Run)
          → GivesStep (AtItem later more (opened_for later) (item_mapped (tree before.nodes) item)) before after full r run (step (looks later more) (item_mapped (tree before.nodes) item) (due_meant before.nodes rest) (known_meant before.nodes s))
          → GivesStep (AtItem entries names (opened_for entries) (item_mapped (tree before.nodes) item)) before after full r run step_here
      step_told after full r run gives =
          same_worlds (λ e n. GivesStep (AtItem e n (opened_for e) (item_mapped (tree before.nodes) item)) before after full r run (step (looks e n) (item_mapped (tree before.nodes) item) (due_meant before.nodes rest) (known_meant before.nodes s)))
          later entries more names e n gives

      module _ (after : Contents) (full : Option Bool) (o : Option Met) (run : Run)
          (gives : GivesStep (AtItem later more (opened_for later) (item_mapped (tree before.nodes) item)) before after full (Ok o) run (step (looks later more) (item_mapped (tree before.nodes) item) (due_meant before.nodes rest) (known_meant before.nodes s))) where
        pub some_told : (x : Met) → o ≡ Some x → GivesStep (AtItem entries names (opened_for entries) (item_mapped (tree before.nodes) item)) before after full (Ok (Some x)) run step_here
        some_told x is = subst (λ o. GivesStep (AtItem entries names (opened_for entries) (item_mapped (tree before.nodes) item)) before after full (Ok o) run step_here) is (step_told after full (Ok o) run gives)

        pub none_told : o ≡ None → GivesStep (AtItem entries names (opened_for entries) (item_mapped (tree before.nodes) item)) before after full (Ok None) run step_here
        none_told is = subst (λ o. GivesStep (AtItem entries names (opened_for entries) (item_mapped (tree before.nodes) item)) before after full (Ok o) run step_here) is (step_told after full (Ok o) run gives)

    module _ (after : Contents) (grown : Extends before after) (new : Run) where
      pub search_goes : AreDue (length before.nodes) rest → stacked new.tasks.items ≡ rest → step_here ≡ goes (known_meant after.nodes (state new.found))
          → IsSearching first began (due_meant after.nodes (stacked new.tasks.items)) (known_meant after.nodes (state new.found))
      search_goes below left is =
          let due : due_meant before.nodes rest ≡ due_meant after.nodes (stacked new.tasks.items) = sym (due_stays before after grown rest below) ∙ ap (due_meant after.nodes) (sym left) in
          let turn = next_on look (item_mapped (tree before.nodes) item) (due_meant before.nodes rest) (known_meant before.nodes s) (known_meant after.nodes (state new.found)) is in
          subst (λ l. IsSearching first began l (known_meant after.nodes (state new.found))) due (record {
            comes = λ n. comes_again look n n (due_meant before.nodes (item ∷ rest)) (due_meant before.nodes rest) (known_meant before.nodes s) (known_meant after.nodes (state new.found)) n first began
                (was.comes n) (on n (item_mapped (tree before.nodes) item) (due_meant before.nodes rest) (known_meant before.nodes s) (known_meant after.nodes (state new.found)) is here);
            same = was.same ∙ turn;
          })

      pub search_stops : (start : Contents) → Extends start before → (n : ℕ) → AddsAmong (OnWay entries names (opened_for entries) n first began) start before
          → (full : Option Bool) (fault : SetFault)
          → GivesStep (AtItem entries names (opened_for entries) (item_mapped (tree before.nodes) item)) before after full (Err fault) new step_here
          → GivesNext (OnWay entries names (opened_for entries) n first began) start after full (Err fault) new (next look first began)
      search_stops start begun n adds full fault stopped =
          stops_later (AtItem entries names (opened_for entries) (item_mapped (tree before.nodes) item)) (OnWay entries names (opened_for entries) n first began) start before
          (item_needs (opened_for entries) n) begun adds full fault _ _
          (λ is. was.same ∙ next_stops look (item_mapped (tree before.nodes) item) (due_meant before.nodes rest) (known_meant before.nodes s) fault is) stopped

      pub search_finds : (x : Met) → AreDue (length before.nodes) rest → stacked new.tasks.items ≡ left_by item (Some x) ++ rest
          → joining look (item_mapped (tree before.nodes) item) (tree after.nodes x.ty) ≡ due_meant after.nodes (left_by item (Some x))
          → step_here ≡ opens (tree after.nodes x.ty) (meant after.nodes x.name x.held) (known_meant after.nodes (state new.found))
          → next look first began ≡ found (tree after.nodes x.ty) (meant after.nodes x.name x.held) (known_meant after.nodes (state new.found)) (due_meant after.nodes (stacked new.tasks.items))
      search_finds x below left joined is =
          let turn = next_opens look (item_mapped (tree before.nodes) item) (due_meant before.nodes rest) (known_meant before.nodes s) (tree after.nodes x.ty) (meant after.nodes x.name x.held) (known_meant after.nodes (state new.found)) is in
          let stay = sym (due_stays before after grown rest below) in
          let due : joining look (item_mapped (tree before.nodes) item) (tree after.nodes x.ty) ++ due_meant before.nodes rest ≡ due_meant after.nodes (stacked new.tasks.items) =
          (λ i. joined i ++ stay i) ∙ sym (map-append (item_mapped (tree after.nodes)) (left_by item (Some x)) rest) ∙ ap (due_meant after.nodes) (sym left)
          in
          was.same ∙ turn ∙ ap (found (tree after.nodes x.ty) (meant after.nodes x.name x.held) (known_meant after.nodes (state new.found))) due

  -- an item that leads to an interface leaves that it comes to its holder
  pub joining_stays : (before after : Contents) → Extends before after → (item : Item ℕ QName) → ItemWithin (length before.nodes) item → (x : Met)
      → joining look (item_mapped (tree before.nodes) item) (tree after.nodes x.ty) ≡ due_meant after.nodes (left_by item (Some x))
  joining_stays before after grown (term holder several t) within x =
      ap (λ h. joins h several (tree after.nodes x.ty) ∷ []) (sym (extends_tree before after grown holder within.0))
  joining_stays before after grown (joins holder several of) within x = refl
  joining_stays before after grown (ends holder) within x = refl
  joining_stays before after grown (closes q) within x = refl

  -- nothing is left
  pub search_ends : (first : List (Item Tree QName)) (began s : Opened Tree Method) (items : List (Item Tree QName)) → IsSearching first began items s → items ≡ [] → next look first began ≡ done s
  search_ends first began s items was none = was.same ∙ ap (λ l. next look l s) none

  -- The outer loop.
  module _ (first : List (Item Tree QName)) (began : Opened Tree Method) (left : ℕ) (items : List (Item Tree QName)) (s : Opened Tree Method) (was : IsOpening first began left items s) where
    pub all_needs : {X : Type 0} (needs : Needs X) (a : X) → OnWay entries names needs left items s a → OnWay entries names needs set_limit first began a
    all_needs needs a w = way_later entries names needs left set_limit items first s began was.comes a w

    module _ (later : Entries) (more : List QName) (e : later ≡ entries) (n : more ≡ names) where
      pub all_asked : (q : QName) → OnWay later more (asks later) left items s q → OnWay entries names (asks entries) set_limit first began q
      all_asked q held = all_needs (asks entries) q (same_worlds (λ e n. OnWay e n (asks e) left items s q) later entries more names e n held)

      pub all_opened : (u : Tree) → OnWay later more (opened_for later) left items s u → OnWay entries names (opened_for entries) set_limit first began u
      all_opened u held = all_needs (opened_for entries) u (same_worlds (λ e n. OnWay e n (opened_for e) left items s u) later entries more names e n held)

      pub next_told : (before after : Contents) (full : Option Bool) (r : Result (Option Met) SetFault) (run : Run)
          → GivesNext (OnWay later more (opened_for later) left items s) before after full r run (next (looks later more) items s)
          → GivesNext (OnWay entries names (opened_for entries) left items s) before after full r run (next look items s)
      next_told before after full r run gives =
          same_worlds (λ e n. GivesNext (OnWay e n (opened_for e) left items s) before after full r run (next (looks e n) items s)) later entries more names e n gives

      module _ (before after : Contents) (full : Option Bool) (o : Option Met) (run : Run)
          (gives : GivesNext (OnWay later more (opened_for later) left items s) before after full (Ok o) run (next (looks later more) items s)) where
        pub some_next : (x : Met) → o ≡ Some x → GivesNext (OnWay entries names (opened_for entries) left items s) before after full (Ok (Some x)) run (next look items s)
        some_next x is = subst (λ o. GivesNext (OnWay entries names (opened_for entries) left items s) before after full (Ok o) run (next look items s)) is (next_told before after full (Ok o) run gives)

        pub none_next : o ≡ None → GivesNext (OnWay entries names (opened_for entries) left items s) before after full (Ok None) run (next look items s)
        none_next is = subst (λ o. GivesNext (OnWay entries names (opened_for entries) left items s) before after full (Ok o) run (next look items s)) is (next_told before after full (Ok o) run gives)

    pub opening_stops : (start before after : Contents) → Extends start before → AddsAmong (OnWay entries names (opened_for entries) set_limit first began) start before
        → (full : Option Bool) (fault : SetFault) (new : Run)
        → GivesNext (OnWay entries names (opened_for entries) left items s) before after full (Err fault) new (next look items s)
        → Stops (OnWay entries names (opened_for entries) set_limit first began) start full fault (opening look set_limit first began ≡ Err fault)
    opening_stops start before after begun adds full fault new stopped =
        stops_later (OnWay entries names (opened_for entries) left items s) (OnWay entries names (opened_for entries) set_limit first began) start before
        (all_needs (opened_for entries)) begun adds full fault _ _ (λ is. was.same ∙ opening_faulty look items s left fault is) stopped

    pub opening_ends : (t : Opened Tree Method) → next look items s ≡ done t → opening look set_limit first began ≡ Ok t
    opening_ends t is = was.same ∙ opening_done look items s left t is

    module _ (x : Tree) (it : Interface Tree QName Method) (t : Opened Tree Method) (rest : List (Item Tree QName)) (is : next look items s ≡ found x it t rest) where
      pub opening_full : left ≡ 0 → opening look set_limit first began ≡ Err TooMany
      opening_full none = was.same ∙ ap (λ n. opening look n items s) none ∙ opening_over look items s x it t rest is

      pub opening_goes : (n : ℕ) → left ≡ suc n → (due : List (Item Tree QName)) (known : Opened Tree Method) → due ≡ inside look x it ++ rest → known ≡ opened_with look x it t
          → IsOpening first began n due known
      opening_goes n one due known due_is known_is =
          let comes : ComesTo look n (inside look x it ++ rest) (opened_with look x it t) set_limit first began =
          comes_again look left n items (inside look x it ++ rest) s (opened_with look x it t) set_limit first began was.comes
          (subst (λ k. ComesTo look n (inside look x it ++ rest) (opened_with look x it t) k items s) (sym one) (next_comes look n items s x it t rest is))
          in
          let same = was.same ∙ ap (λ k. opening look k items s) one ∙ opening_into look items s x it t rest is n in
          subst (λ d. IsOpening first began n d known) (sym due_is) (subst (λ k. IsOpening first began n (inside look x it ++ rest) k) (sym known_is) (record { comes = comes; same = same }))

  pub opening_begins : (first : List (Item Tree QName)) (began : Opened Tree Method) (left : ℕ) → left ≡ set_limit → IsOpening first began left first began
  opening_begins first began left is = record {
    comes = subst (λ k. ComesTo look left first began k first began) is here;
    same = ap (λ k. opening look k first began) (sym is);
  }

pub limit_is : 65536 ≡ set_limit
unfolding set_limit
limit_is = refl
