use Rattle.std.proofs.Common.{rules, ◌≡◌, ap, subst, cond, ◌∙◌, Some}
use Rattle.std.specs.Prelude.{option_map}
use Rattle.type_terms.specs.TreeEquality.{same_name}
use Rattle.whole_terms.specs.Tables.{told, table_of}
use Rattle.whole_terms.proofs.AddLemmas.{mapped_cond}
use Rattle.whole_terms.proofs.summaries.put.Goals as goal

pub returns : goal.returns
returns c =
    let name : c.in_ok-name.name ≡ c.args.q.now = search rules in
    record {
      summary = told c.in_ok-summary.summary;
      tells = c.in_ok-summary.ensures;
      puts = λ other.
          subst (λ n. table_of c.insert.new.self.entries other ≡ cond (same_name n other) (Some (told c.in_ok-summary.summary)) (table_of c.args.table.now.entries other)) name
          (ap (option_map told) (c.in_ok-insert.ensures.updates.0 other) ∙ mapped_cond (same_name c.in_ok-name.name other) c.in_ok-summary.summary _);
    }
