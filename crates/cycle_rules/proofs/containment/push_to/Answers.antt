use Rattle.std.proofs.Common.{Result, Ok, Err, OnErr, length, slice_set, refl, ap, ◌∙◌}
use Rattle.std.proofs.lemmas.Option.{slice_get_read}
use Rattle.cycle_rules.specs.Containment.{rows_of}
use Rattle.cycle_rules.proofs.PlaceLemmas.{at-map_of, map-set, set_as_it_is}
use Rattle.cycle_rules.proofs.containment.push_to.Goals as goal

after_refusal : {X E : Type 0} (r : Result X E) (P : Type 0) → P → OnErr r P
after_refusal (Ok x) P p = tt
after_refusal (Err e) P p = p

pub returns-in_err-push-clause-refused : goal.returns-in_err-push-clause-refused
returns-in_err-push-clause-refused g c =
    let rows = c.args.rows.now.items in
    let row = c.index_mut.result.now in
    let there = at-map_of (λ r. r.items) rows c.args.row row (slice_get_read rows (length rows) c.args.row row refl c.requires c.index_mut.ensures.value) in
    after_refusal _ _ (map-set (λ r. r.items) rows c.args.row c.push.new.self ∙ ap (λ l. slice_set (rows_of rows) c.args.row l) c.in_err-push.ensures.items ∙ set_as_it_is (rows_of rows) c.args.row row.items there)

pub returns-clause-gained : goal.returns-clause-gained
returns-clause-gained g c =
    let rows = c.args.rows.now.items in
    record {
      row = c.index_mut.result.now.items;
      from = at-map_of (λ r. r.items) rows c.args.row c.index_mut.result.now (slice_get_read rows (length rows) c.args.row c.index_mut.result.now refl c.requires c.index_mut.ensures.value);
      to = map-set (λ r. r.items) rows c.args.row c.push.new.self ∙ ap (λ l. slice_set (rows_of rows) c.args.row l) c.in_ok-push.ensures.items;
    }
