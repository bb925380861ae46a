use Rattle.std.proofs.Common.{rules, ◌≡◌, ◌<◌, length, subst, None, arith}
use Rattle.std.proofs.lemmas.Bool.Decides.{nat_tests}
use Rattle.std.specs.Str.{chars}
use Rattle.go_lexer.specs.Lexing.{lexed_text, LexesAs}
use Rattle.go_lexer.proofs.Turns.{blank_smaller, token_smaller, took_blank, took_token, took_stop, took_all, chars_some, chars_none}
use Rattle.go_lexer.proofs.lexing.lex_text.Goals as goal

pub loop-rest-smaller-in-Blank : goal.loop-rest-smaller-in-Blank
loop-rest-smaller-in-Blank c = blank_smaller c.in-Blank.breaks (chars c.loop-rest.rest.now) (chars c.in-Blank.after.now) c.in-Blank.ensures

pub loop-rest-preserved-in-Blank : goal.loop-rest-preserved-in-Blank
loop-rest-preserved-in-Blank c =
    let some : 0 < length c.loop-rest.rest.now = grind (arith, nat_tests) in (
      search rules,
      took_blank c.args.ending c.args.total c.loop-rest.owed c.in_ok-owed-in-Blank.owed c.in-Blank.breaks (chars c.loop-rest.rest.now) (chars c.in-Blank.after.now)
          c.loop-rest.tokens.items c.take_blank.new.tokens.items (lexed_text c.args.ending c.args.total None (chars c.args.text.now))
          c.in-Blank.ensures (chars_some c.loop-rest.rest.now c.loop-rest.invariant.0 some) c.in_ok-owed-in-Blank.ensures.tokens c.in_ok-owed-in-Blank.ensures.owed c.loop-rest.invariant.1,
    )

pub loop-rest-smaller : goal.loop-rest-smaller
loop-rest-smaller c = token_smaller c.in-Token.kind c.in-Token.owes (chars c.loop-rest.rest.now) (chars c.in-Token.after.now) c.in-Token.ensures

pub loop-rest-preserved : goal.loop-rest-preserved
loop-rest-preserved c =
    let some : 0 < length c.loop-rest.rest.now = grind (arith, nat_tests) in (
      search rules,
      took_token c.args.ending c.args.total c.loop-rest.owed c.in_ok-owed-in-Token.owed c.in-Token.kind c.in-Token.owes (chars c.loop-rest.rest.now) (chars c.in-Token.after.now)
          c.place.result c.place-in-Token.result c.loop-rest.tokens.items c.take_token.new.tokens.items (lexed_text c.args.ending c.args.total None (chars c.args.text.now))
          c.in-Token.ensures (chars_some c.loop-rest.rest.now c.loop-rest.invariant.0 some) c.place.ensures c.place-in-Token.ensures
          c.in_ok-owed-in-Token.ensures.tokens c.in_ok-owed-in-Token.ensures.owed c.loop-rest.invariant.1,
    )

pub returns-in-Stop : goal.returns-in-Stop
returns-in-Stop c =
    let some : 0 < length c.loop-rest.rest.now = grind (arith, nat_tests) in
    took_stop c.args.ending c.args.total c.loop-rest.owed c.in-Stop.breach (chars c.loop-rest.rest.now) (chars c.in-Stop.at.now) c.fault_at.result c.place-in-Stop.result
    c.loop-rest.tokens.items (lexed_text c.args.ending c.args.total None (chars c.args.text.now))
    c.in-Stop.ensures (chars_some c.loop-rest.rest.now c.loop-rest.invariant.0 some) c.place-in-Stop.ensures c.fault_at.ensures c.loop-rest.invariant.1

pub returns : goal.returns
returns c =
    let empty : length c.loop-rest.rest.now ≡ 0 = grind (arith, nat_tests) in
    subst (λ r. LexesAs (λ v. v.items) c.finish.result r)
    (took_all c.args.ending c.args.total c.loop-rest.owed (chars c.loop-rest.rest.now) c.loop-rest.tokens.items (lexed_text c.args.ending c.args.total None (chars c.args.text.now)) (chars_none c.loop-rest.rest.now empty) c.loop-rest.invariant.1)
    c.finish.ensures
