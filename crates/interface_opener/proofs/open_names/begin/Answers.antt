use Rattle.std.proofs.Common.{rules, ◌≡◌, [], ◌∷◌, ◌++◌, ap, ◌∙◌}
use Rattle.interface_opener.proofs.open_names.begin.Goals as goal

pub returns : goal.returns
returns c due is fresh =
    let grown : c.insert.new.self.keys ≡ c.args.names.now.keys ++ c.args.q ∷ [] = search (rules, fresh) in
    grown ∙ ap (λ l. l ++ c.args.q ∷ []) is
