use Rattle.std.proofs.Common.{◌≡◌, ◌≢◌, Some, None, true, false, subst, sym, ◌∙◌, arith, rules}
use Rattle.wire_bytes.specs.Begins.{Begins}
use Rattle.position_codec.specs.Place.{Place, Named, is_odd}
use Rattle.position_codec.specs.Position.{Position}
use Rattle.position_codec.proofs.PlaceLemmas.{Moves, column_stands, line_stands, file_stands}
use Rattle.position_codec.proofs.reading.read_step.Goals as goal

pub returns-then-not-is_odd-clause-found : goal.returns-then-not-is_odd-clause-found
returns-then-not-is_odd-clause-found c =
    let before : Place = record { file = c.prev.inside.file; line = c.prev.inside.line; column = c.prev.inside.column } in
    let old = c.args.cursor.now.left in
    let mid = c.read_moved.new.cursor.left in
    let column = c.in_ok-number.column in
    let x = c.in_ok-number.number in
    let moves : Moves old mid before.column column x = record { stands = c.in_ok-number.ensures.found.0; to_there = c.in_ok-number.ensures.found.1 } in
    let even : is_odd x ≡ false = search rules in
    let found = column_stands c.args.strings.now old mid before column x c.prev.invariant.0 (omega arith) moves even in
    subst (λ (p : Named). Begins (Position c.args.strings.now p.place) old (record { place = record { file = p.place.file; line = c.prev.inside.line; column = column }; name = None }) mid) c.prev.view_is found

pub returns-then-not-is_odd-2-clause-found : goal.returns-then-not-is_odd-2-clause-found
returns-then-not-is_odd-2-clause-found c =
    let before : Place = record { file = c.prev.inside.file; line = c.prev.inside.line; column = c.prev.inside.column } in
    let old = c.args.cursor.now.left in
    let mid = c.read_moved.new.cursor.left in
    let behind = c.read_line.new.cursor.left in
    let column = c.in_ok-number.column in
    let line = c.in_ok-number-2.line in
    let x = c.in_ok-number.number in
    let y = c.in_ok-number-2.number in
    let moves : Moves old mid before.column column x = record { stands = c.in_ok-number.ensures.found.0; to_there = c.in_ok-number.ensures.found.1 } in
    let moves' : Moves mid behind before.line line y = record { stands = c.in_ok-number-2.ensures.found.0; to_there = c.in_ok-number-2.ensures.found.1 } in
    let odd : is_odd x ≡ true = search rules in
    let even : is_odd y ≡ false = search rules in
    let found = line_stands c.args.strings.now old mid behind before column line x y (omega arith) (omega arith) moves odd moves' c.in_ok-number-2.ensures.found.2 even in
    subst (λ (p : Named). Begins (Position c.args.strings.now p.place) old (record { place = record { file = p.place.file; line = line; column = column }; name = None }) behind) c.prev.view_is found

pub returns-clause-found : goal.returns-clause-found
returns-clause-found c =
    let before : Place = record { file = c.prev.inside.file; line = c.prev.inside.line; column = c.prev.inside.column } in
    let old = c.args.cursor.now.left in
    let mid = c.read_moved.new.cursor.left in
    let behind = c.read_line.new.cursor.left in
    let rest = c.read_file.new.cursor.left in
    let column = c.in_ok-number.column in
    let line = c.in_ok-number-2.line in
    let x = c.in_ok-number.number in
    let y = c.in_ok-number-2.number in
    let moves : Moves old mid before.column column x = record { stands = c.in_ok-number.ensures.found.0; to_there = c.in_ok-number.ensures.found.1 } in
    let moves' : Moves mid behind before.line line y = record { stands = c.in_ok-number-2.ensures.found.0; to_there = c.in_ok-number-2.ensures.found.1 } in
    let odd : is_odd x ≡ true = search rules in
    let odd' : is_odd y ≡ true = search rules in
    let other : c.in_ok-file.file.1.now ≢ before.file = λ e. c.in_ok-file.ensures.found.2 (e ∙ sym c.as_slice.ensures) in
    let found = file_stands c.args.strings.now old mid behind rest c.in_ok-file.file.1.now before column line c.in_ok-file.file.0 x y (omega arith) (omega arith) moves odd moves' odd' c.in_ok-file.ensures.found.0 c.in_ok-file.ensures.found.1 other in
    subst (λ (p : Named). Begins (Position c.args.strings.now p.place) old (record { place = record { file = c.in_ok-file.file.1.now; line = line; column = column }; name = Some c.in_ok-file.file.0 }) rest) c.prev.view_is found
