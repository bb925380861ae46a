use Rattle.std.proofs.Common.{◌≡◌, ℕ, suc, ◌∷◌, List, length, drop, refl, ap, sym, subst, ◌∙◌, arith, Ok}
use Rattle.std.specs.Prelude.{IfSome}
use Rattle.std.proofs.lemmas.Result.{err_from_is_err_and}
use Rattle.environments.specs.KeptLaws.{kept_itself}
use Rattle.interface_opener.specs.declared.found.Event.{Event as Noted}
use Rattle.common_terms.specs.Calls.{AllWithin}
use Rattle.common_terms.proofs.FoundLemmas.{one_more}
use Rattle.set_terms.specs.Known.{known_of}
use Rattle.set_terms.specs.Shares.{wholes_of, unions_of}
use Rattle.set_terms.specs.Meant.{choice_meant}
use Rattle.set_terms.proofs.TurnLemmas.{Going, turns_begin, turn_stops, turn_kept, turn_goes, turns_end, item_in, item_within, drop_past, holds_grown}
use Rattle.set_terms.proofs.folding.set_terms.Goals as goal

pub loop-event-init : goal.loop-event-init
loop-event-init g c =
    let start = c.args.arena.now in
    let wholes = λ (id : ℕ). ap (λ es. wholes_of es id) c.new.ensures.empty in
    let unions = λ (id : ℕ). ap (λ es. unions_of es id) c.new-2.ensures.empty in
    record {
      going = turns_begin g.C.Covering.covered g.C.Covering.opens g.C.Covering.asks (g.E.Env.entries c.args.env.now start.nodes) (g.E.Env.names c.args.env.now) start c.args.events.now
          (known_of (record { wholes = c.new.result; unions = c.new-2.result })) wholes unions;
      kept = kept_itself _ _ _ _;
      stands = c.requires.stands;
      holds = record {
        wholes = λ id. subst (λ w. IfSome w (AllWithin (length start.nodes))) (sym (wholes id)) tt;
        unions = λ id. subst (λ w. IfSome w (AllWithin (length start.nodes))) (sym (unions id)) tt;
      };
    }

pub happen-requires : goal.happen-requires
happen-requires g c =
    let start = c.args.arena.now in
    let at = c.loop-event in
    let inv = at.invariant in
    λ k. ((refl, tt), (inv.stands, holds_grown start at.arena inv.kept.extends (known_of at.shares) inv.holds))

pub returns-in_err-happen-clause-exact : goal.returns-in_err-happen-clause-exact
returns-in_err-happen-clause-exact g c =
    let start = c.args.arena.now in
    let entries = g.E.Env.entries c.args.env.now start.nodes in
    let names = g.E.Env.names c.args.env.now in
    let at = c.loop-event in
    let inv = at.invariant in
    let item = c.event-item.result in
    let rest = drop (suc at.event-index) c.args.events.now in
    let cons : drop at.event-index c.args.events.now ≡ item ∷ rest = item_in c.args.events.now at.event-index item c.loop-event-test.true c.event-item.is in
    let within = item_within (length start.nodes) at.event-index c.args.events.now item rest c.requires.events cons in
    let going = subst (λ (l : List Noted). Going g.C.Covering.covered g.C.Covering.opens g.C.Covering.asks entries names start c.args.events.now l (known_of at.shares)) cons inv.going in
    let p = err_from_is_err_and c.from_residual.result c.from_residual.ensures.1 in
    rw (p.1, p.2) (turn_stops g.C.Covering.covered g.C.Covering.opens g.C.Covering.asks entries names start c.args.events.now (g.E.Env.entries at.env at.arena.nodes) (g.E.Env.names at.env) inv.kept.entries inv.kept.names _ _ at.arena inv.kept (known_of at.shares) inv.holds c.told_apart.ensures item rest within going (g.E.Env.full c.happen.new.env) c.in_err-happen.field-0.0 (known_of c.happen.new.shares) c.args.node c.in_err-happen.ensures.exact)

pub returns-in_err-happen-clause-kept : goal.returns-in_err-happen-clause-kept
returns-in_err-happen-clause-kept g c =
    let start = c.args.arena.now in
    let entries = g.E.Env.entries c.args.env.now start.nodes in
    let names = g.E.Env.names c.args.env.now in
    let at = c.loop-event in
    let inv = at.invariant in
    let item = c.event-item.result in
    let rest = drop (suc at.event-index) c.args.events.now in
    let cons : drop at.event-index c.args.events.now ≡ item ∷ rest = item_in c.args.events.now at.event-index item c.loop-event-test.true c.event-item.is in
    let within = item_within (length start.nodes) at.event-index c.args.events.now item rest c.requires.events cons in
    let going = subst (λ (l : List Noted). Going g.C.Covering.covered g.C.Covering.opens g.C.Covering.asks entries names start c.args.events.now l (known_of at.shares)) cons inv.going in
    turn_kept g.C.Covering.covered g.C.Covering.opens g.C.Covering.asks entries names start c.args.events.now (g.E.Env.entries at.env at.arena.nodes) (g.E.Env.names at.env) inv.kept.entries inv.kept.names _ _ at.arena inv.kept (known_of at.shares) inv.holds c.told_apart.ensures item rest within going _ c.happen.new.arena c.in_err-happen.ensures.kept

pub loop-event-preserved : goal.loop-event-preserved
loop-event-preserved g c =
    let start = c.args.arena.now in
    let entries = g.E.Env.entries c.args.env.now start.nodes in
    let names = g.E.Env.names c.args.env.now in
    let at = c.loop-event in
    let inv = at.invariant in
    let item = c.event-item.result in
    let rest = drop (suc at.event-index) c.args.events.now in
    let cons : drop at.event-index c.args.events.now ≡ item ∷ rest = item_in c.args.events.now at.event-index item c.loop-event-test.true c.event-item.is in
    let within = item_within (length start.nodes) at.event-index c.args.events.now item rest c.requires.events cons in
    let going = subst (λ (l : List Noted). Going g.C.Covering.covered g.C.Covering.opens g.C.Covering.asks entries names start c.args.events.now l (known_of at.shares)) cons inv.going in
    let new = known_of c.happen.new.shares in
    let does = c.in_ok-happen.ensures in
    let held = does.within (length start.nodes) within inv.holds in
    record {
      going = subst (λ (k : ℕ). Going g.C.Covering.covered g.C.Covering.opens g.C.Covering.asks entries names start c.args.events.now (drop k c.args.events.now) new) (one_more at.event-index)
          (turn_goes g.C.Covering.covered g.C.Covering.opens g.C.Covering.asks entries names start c.args.events.now (g.E.Env.entries at.env at.arena.nodes) (g.E.Env.names at.env) inv.kept.entries inv.kept.names _ _ at.arena inv.kept (known_of at.shares) inv.holds c.told_apart.ensures item rest within going new held does.exact);
      kept = turn_kept g.C.Covering.covered g.C.Covering.opens g.C.Covering.asks entries names start c.args.events.now (g.E.Env.entries at.env at.arena.nodes) (g.E.Env.names at.env) inv.kept.entries inv.kept.names _ _ at.arena inv.kept (known_of at.shares) inv.holds c.told_apart.ensures item rest within going _ c.happen.new.arena does.kept;
      stands = does.stands_after;
      holds = held;
    }

pub returns-clause-exact : goal.returns-clause-exact
returns-clause-exact g c =
    let start = c.args.arena.now in
    let entries = g.E.Env.entries c.args.env.now start.nodes in
    let names = g.E.Env.names c.args.env.now in
    let at = c.loop-event in
    let inv = at.invariant in
    turns_end g.C.Covering.covered g.C.Covering.opens g.C.Covering.asks entries names start c.args.events.now (drop at.event-index c.args.events.now) (known_of at.shares) inv.going
    (drop_past c.args.events.now at.event-index (omega (arith, c.loop-event-test.false))) c.args.node c.requires.there
    ∙ ap (λ c. Ok (choice_meant start.nodes c)) (sym c.take_union.ensures.value)
