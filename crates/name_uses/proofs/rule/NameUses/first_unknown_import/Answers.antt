use Rattle.std.proofs.Common.{map, refl, ap, ◌∙◌}
use Rattle.std.proofs.lemmas.List.{map-append}
use Rattle.source_places.specs.Places.{earlier}
use Rattle.source_trees.specs.Files.{written_import}
use Rattle.name_uses.specs.Uses.{Offers, found_at, unknown_import, unknown_imports}
use Rattle.name_uses.proofs.FirstLaws.{searched_turn, searched_end}
use Rattle.name_uses.proofs.rule.NameUses.first_unknown_import.Goals as goal

pub loop-import-preserved : goal.loop-import-preserved
loop-import-preserved g c =
    let o : Offers = record { names = g.P.Packages.names c.args.self.now.packages.now; offers = g.P.Packages.offers c.args.self.now.packages.now } in
    let places = unknown_import c.args.source.file c.import-item.result.at (o.names c.import-item.result.path) in
    searched_turn _ _ _ _ _ _ _ (map (found_at c.args.self.now.cause) places) c.loop-import.invariant c.loop-import-test.true c.import-item.is
    (λ ys. map-append (found_at c.args.self.now.cause) places (unknown_imports o c.args.source.file (map (written_import c.args.source.bytes.now) ys)))
    (c.earlier-found.ensures ∙ ap (earlier c.loop-import.found) c.unknown_import.ensures)

pub returns : goal.returns
returns g c = searched_end _ _ _ _ c.loop-import.invariant c.loop-import-test.false refl
