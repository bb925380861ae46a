use Rattle.std.proofs.Common.{sym, arith}
use Rattle.wire_bytes.proofs.TextLemmas.{text_past, text_short, no_number}
use Rattle.wire_bytes.proofs.text.text_span.Goals as goal

pub returns-then-offset-strings-clause-exact : goal.returns-then-offset-strings-clause-exact
returns-then-offset-strings-clause-exact c = sym (text_past c.args.strings.now c.args.offset (omega arith))

pub returns-then-len-rest-clause-exact : goal.returns-then-len-rest-clause-exact
returns-then-len-rest-clause-exact c = sym (text_short c.args.strings.now c.args.offset c.in-Ok.len c.in-Ok.rest.now c.in-Ok.ensures.exact c.if-len-rest.true)

pub returns-in_default-clause-exact : goal.returns-in_default-clause-exact
returns-in_default-clause-exact c = sym (no_number c.args.strings.now c.args.offset c.in_default.field-0 c.in_default.ensures.exact)
