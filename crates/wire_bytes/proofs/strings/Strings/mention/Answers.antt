use Rattle.std.proofs.Common.{◌≡◌, None, length, ◌∙◌, rules, ap}
use Rattle.std.specs.Prelude.{nat_eq}
use Rattle.std.specs.Cmp.Lexicographic.{pointwise}
use Rattle.std.specs.Map.{lookup}
use Rattle.wire_bytes.specs.Section.{with_text}
use Rattle.wire_bytes.proofs.SectionLemmas.{IsNew, new_holds, new_texts, new_offset, entries_new}
use Rattle.wire_bytes.proofs.strings.Strings.mention.Goals as goal

is_new : (c : goal.In-Ok) → IsNew c.self.inside.bytes.items c.append_text.new.bytes.items c.self.inside.offsets.entries c.insert.new.self.entries c.in_ok-key.key (length c.as_slice-offset.result.now) c.args.text.now
is_new c =
    let absent : lookup (λ k. pointwise nat_eq c.args.text.now k.items) c.self.inside.offsets.entries ≡ None = search rules in
    let at_end : length c.as_slice-offset.result.now ≡ length c.self.inside.bytes.items = search rules in
    record {
      holds = c.self.invariant;
      absent = absent;
      copied = c.in_ok-key.ensures.items;
      at_end = at_end;
      entries = c.in-Ok.ensures.entries ∙ entries_new c.self.inside.offsets c.in_ok-key.key (length c.as_slice-offset.result.now) c.args.text.now c.in_ok-key.ensures.items absent;
      appended = c.in_ok-append_text.ensures.added;
    }

pub invariant_of-self-in-Ok : goal.invariant_of-self-in-Ok
invariant_of-self-in-Ok c = new_holds _ _ _ _ _ _ _ (is_new c)

pub returns-clause-texts : goal.returns-clause-texts
returns-clause-texts c = new_texts _ _ _ _ _ _ _ (is_new c) ∙ ap (λ texts. with_text texts c.args.text.now) c.self.view_is

pub returns-clause-offset : goal.returns-clause-offset
returns-clause-offset c = new_offset _ _ _ _ _ _ _ (is_new c)
