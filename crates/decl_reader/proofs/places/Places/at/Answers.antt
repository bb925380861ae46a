use Rattle.std.proofs.Common.{◌<◌, ◌++◌, List, sym, ap, subst, ◌∙◌, Option}
use Rattle.std.specs.Prelude.{option_map, IfSome}
use Rattle.decl_reader.specs.declared.places.Place.{Place}
use Rattle.decl_reader.specs.Places.{PlaceEntry, place_at, placed_as, AllPlaced}
use Rattle.decl_reader.proofs.EntryLemmas.{found_at, found_holds}
use Rattle.decl_reader.proofs.places.Places.at.Goals as goal

pub returns-clause-found : goal.returns-clause-found
returns-clause-found c types =
    let o = c.args.offset in
    let entries = c.self.inside.mapped.entries in
    let place = c.place_of.ensures ∙ ap (λ (es : List PlaceEntry). place_at (es ++ entries) o) c.as_slice.ensures ∙ ap (λ (es : List PlaceEntry). place_at es o) c.self.view_is in
    ap (option_map (placed_as types)) place ∙ found_at (placed_as types) c.args.self.now o

pub returns-clause-inside : goal.returns-clause-inside
returns-clause-inside c size all =
    let o = c.args.offset in
    let entries = c.self.inside.mapped.entries in
    let place = c.place_of.ensures ∙ ap (λ (es : List PlaceEntry). place_at (es ++ entries) o) c.as_slice.ensures ∙ ap (λ (es : List PlaceEntry). place_at es o) c.self.view_is in
    subst (λ (a : Option Place). IfSome a (λ p. p.index < size)) (sym place) (found_holds (λ p. p.index < size) c.args.self.now o all)
