use Rattle.std.proofs.Common.{◌≡◌, false, map, ap, ◌∙◌, rules, bytes_eq}
use Rattle.source_scopes.specs.Scopes.{blank, position, or_universe}
use Rattle.source_scopes.proofs.OutsideLaws.{is_object, no_object}
use Rattle.source_scopes.proofs.TableLaws.{names_of_objects}
use Rattle.source_scopes.proofs.looking.PackageScopes.meaning_outside.Goals as goal

pub returns-in-Some : goal.returns-in-Some
returns-in-Some c =
    let shown : bytes_eq c.args.text.now blank ≡ false = search rules in
    is_object c.args.self.now c.args.file c.args.text.now shown c.in-Some.number
    (c.in-Some.ensures ∙ ap (position c.args.text.now) (names_of_objects c.self.inside.objects ∙ ap (λ d. map (λ o. o.name.text) d.objects) c.self.view_is))

pub returns-in-Some-package : goal.returns-in-Some-package
returns-in-Some-package c =
    let shown : bytes_eq c.args.text.now blank ≡ false = search rules in
    ap (or_universe c.args.text.now) c.in-Some-package.ensures ∙ no_object c.args.self.now c.args.file c.args.text.now shown
    (c.in_default.ensures ∙ ap (position c.args.text.now) (names_of_objects c.self.inside.objects ∙ ap (λ d. map (λ o. o.name.text) d.objects) c.self.view_is))

pub returns-in-None : goal.returns-in-None
returns-in-None c =
    let shown : bytes_eq c.args.text.now blank ≡ false = search rules in
    c.predeclared.ensures ∙ ap (or_universe c.args.text.now) c.in-None.ensures ∙ no_object c.args.self.now c.args.file c.args.text.now shown
    (c.in_default.ensures ∙ ap (position c.args.text.now) (names_of_objects c.self.inside.objects ∙ ap (λ d. map (λ o. o.name.text) d.objects) c.self.view_is))
