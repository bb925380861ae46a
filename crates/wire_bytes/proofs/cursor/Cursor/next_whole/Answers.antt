use Rattle.std.proofs.Common.{◌≡◌, ◌<◌, Ok, arith, rules, subst, sym, ◌∙◌, to_z, of_z}
use Rattle.std.specs.Int.{w128}
use Rattle.std.proofs.lemmas.Int.{to_z-of_z}
use Rattle.std.specs.Prelude.{FitsSigned}
use Rattle.wire_bytes.specs.Begins.{Begins}
use Rattle.wire_bytes.specs.Reading.{Spot, byte_at, bytes_at}
use Rattle.wire_bytes.specs.Whole.{Whole, small_limit, value_of}
use Rattle.wire_bytes.proofs.WholeLemmas.{found_short, found_long}
use Rattle.wire_bytes.proofs.cursor.Cursor.next_whole.Goals as goal

pub returns-then-from-small_limit-clause-found : goal.returns-then-from-small_limit-clause-found
returns-then-from-small_limit-clause-found c =
    let after : Spot = record { end = c.ahead.inside.end; left = c.ahead.inside.rest.now } in
    let read : byte_at c.args.self.now ≡ Ok (c.in_ok-first.first, after) = search rules in
    let short : c.in_ok-first.first < small_limit c.args.signed c.args.max = omega arith in
    let found : Begins (Whole c.args.signed c.args.max) c.args.self.now.left (value_of c.args.signed c.in_ok-first.first) after.left = found_short c.args.signed c.args.max c.in_ok-first.first c.args.self.now after c.requires read short in
    let fits : FitsSigned w128 c.value_of.result = search rules in
    let kept : to_z w128 (of_z w128 c.value_of.result) ≡ c.value_of.result = to_z-of_z w128 c.value_of.result fits in
    subst (λ v. Begins (Whole c.args.signed c.args.max) c.args.self.now.left v after.left) (sym (kept ∙ c.value_of.ensures)) found

pub returns-clause-found : goal.returns-clause-found
returns-clause-found c =
    let behind : Spot = record { end = c.ahead.inside.end; left = c.ahead.inside.rest.now } in
    let after : Spot = record { end = c.ahead-2.inside.end; left = c.ahead-2.inside.rest.now } in
    let read : byte_at c.args.self.now ≡ Ok (c.in_ok-first.first, behind) = search rules in
    let taken : bytes_at c.from-2.result behind ≡ Ok (c.in_ok-size.size.now, after) = search rules in
    let found : Begins (Whole c.args.signed c.args.max) c.args.self.now.left c.in_ok-value.value after.left = found_long c.args.signed c.args.max c.in_ok-first.first c.from-2.result c.in_ok-size.size.now c.in_ok-value.value c.args.self.now behind after read taken c.in_ok-value.ensures.spelled in
    let fits : FitsSigned w128 c.in_ok-value.value = search rules in
    let kept : to_z w128 (of_z w128 c.in_ok-value.value) ≡ c.in_ok-value.value = to_z-of_z w128 c.in_ok-value.value fits in
    subst (λ v. Begins (Whole c.args.signed c.args.max) c.args.self.now.left v after.left) (sym kept) found
