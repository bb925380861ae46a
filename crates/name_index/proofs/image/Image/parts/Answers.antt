use Rattle.std.proofs.Common.{refl}
use Rattle.name_index.proofs.PartsLemmas.{parts_of, of_file}
use Rattle.name_index.proofs.image.Image.parts.Goals as goal

pub returns-clause-exact : goal.returns-clause-exact
returns-clause-exact c =
    rw (← c.self.view_is) (parts_of c.self.inside.own.items c.self.inside.bytes.items c.self.inside.layout _ (record {
      file = c.as_slice.ensures.value;
      strings_at = c.from.ensures;
      strings_len = c.from-2.ensures;
      body_at = c.from-3.ensures;
      body_len = c.from-4.ensures;
      version = refl;
      form = refl;
      own_path = c.as_slice-2.ensures.value;
      spans = c.as_slice-3.ensures.value;
    }) c.self.invariant)

pub returns-clause-of_file : goal.returns-clause-of_file
returns-clause-of_file c =
    of_file c.self.inside.own.items c.self.inside.bytes.items c.self.inside.layout _ (record {
      file = c.as_slice.ensures.value;
      strings_at = c.from.ensures;
      strings_len = c.from-2.ensures;
      body_at = c.from-3.ensures;
      body_len = c.from-4.ensures;
      version = refl;
      form = refl;
      own_path = c.as_slice-2.ensures.value;
      spans = c.as_slice-3.ensures.value;
    }) c.self.invariant
