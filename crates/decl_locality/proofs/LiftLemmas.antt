-- What is read of bytes alone, as a reader of a block.
use Rattle.std.proofs.Common.{◌≡◌, ℕ, ◌≤◌, List, [], ◌++◌, length, Result, Ok, Err, refl, sym, ap, subst, ◌∙◌}
use Rattle.std.specs.List.{AllByRecursion}
use Rattle.std.proofs.lemmas.List.{append-nil}
use Rattle.wire_bytes.specs.declared.fault.ByteFault.{ByteFault}
use Rattle.wire_bytes.specs.Reading.{Spot, place}
use Rattle.wire_bytes.specs.Local.{with_more, IsAhead}
use Rattle.wire_bytes.specs.Local.{IsSteady as IsSteadyReading, IsLocal as IsLocalReading, wants_more as reading_wants}
use Rattle.wire_bytes.proofs.LocalLemmas.{place_more, among_from}
use Rattle.position_codec.specs.Place.{Named}
use Rattle.decl_spelling.specs.declared.mention.Mention.{Mention}
use Rattle.decl_spelling.specs.Reading.{Ahead, Reader, Stopped}
use Rattle.decl_locality.specs.LocalReaders.{longer, named_by, wants_more, Continues, IsSteady, IsNamedAmong, StaysAmong}
use Rattle.decl_locality.proofs.SteadyLemmas.{names_here, read_is, stop_is}

-- The value, the place before the next position, and the types that are named are made of what was read.
module _ {X Y : Type 0} (read : Named → Spot → Result (X × Spot) ByteFault) (value : Named → X → Y) (next : Named → X → Named) (added : ℕ → X → List Mention) where
  abbrev pub onto_next : Ahead → X → Spot → Ahead
  onto_next a x s = record { spot = s; before = next a.before x; mentions = a.mentions ++ added (place a.spot) x }

  abbrev pub lifted_of : Ahead → Result (X × Spot) ByteFault → Result (Y × Ahead) Stopped
  lifted_of a (Ok r) = Ok (value a.before r.0, onto_next a r.0 r.1)
  lifted_of a (Err f) = Err (record { fault = f; mentions = a.mentions })

  abbrev pub lifted : Reader Y
  lifted a = lifted_of a (read a.before a.spot)

  lifted_ok : (a b : Ahead) (y : Y) (r : Result (X × Spot) ByteFault) → lifted_of a r ≡ Ok (y, b)
      → (x : X) × (s : Spot) × (r ≡ Ok (x, s)) × (◌≡◌ {A = Y × Ahead} (value a.before x, onto_next a x s) (y, b))
  lifted_ok a b y (Ok (x, s)) e = (x, s, refl, read_is (value a.before x, onto_next a x s) (y, b) e)
  lifted_ok a b y (Err f) e = absurd cc

  lifted_stop : (a : Ahead) (s : Stopped) (r : Result (X × Spot) ByteFault) → lifted_of a r ≡ Err s
      → (r ≡ Err s.fault) × (s.mentions ≡ a.mentions)
  lifted_stop a s (Ok r) e = absurd cc
  lifted_stop a s (Err f) e =
      let same = stop_is (record { fault = f; mentions = a.mentions }) s e in
      (ap (λ (t : Stopped). Err t.fault) same, sym (ap (λ (t : Stopped). t.mentions) same))

  lifted_names : (a : Ahead) (r : Result (X × Spot) ByteFault) → Continues a.mentions (named_by (lifted_of a r))
  lifted_names a (Ok r) = (added (place a.spot) r.0, refl)
  lifted_names a (Err f) = names_here a.mentions

  lifted_wants : (a : Ahead) (r : Result (X × Spot) ByteFault) → wants_more (lifted_of a r) ≡ reading_wants r
  lifted_wants a (Ok r) = refl
  lifted_wants a (Err f) = refl

  module _ (steady : (before : Named) → IsSteadyReading (read before)) where
    lifted_stays : (a b : Ahead) (y : Y) (more : List ℕ) → lifted a ≡ Ok (y, b) → lifted (longer a more) ≡ Ok (y, longer b more)
    lifted_stays a b y more e =
        let w = lifted_ok a b y (read a.before a.spot) e in
        ap (lifted_of (longer a more)) ((steady a.before).stays a.spot w.1 w.0 more w.2)
        ∙ ap (λ (n : ℕ). Ok (value a.before w.0, record { spot = with_more w.1 more; before = next a.before w.0; mentions = a.mentions ++ added n w.0 })) (place_more a.spot more)
        ∙ ap (λ (p : Y × Ahead). Ok (p.0, longer p.1 more)) w.3

    lifted_still : (a : Ahead) (s : Stopped) (more : List ℕ) → lifted a ≡ Err s → Continues s.mentions (named_by (lifted (longer a more)))
    lifted_still a s more e =
        let w = lifted_stop a s (read a.before a.spot) e in
        subst (λ ms. Continues ms (named_by (lifted (longer a more)))) (sym w.1) (lifted_names (longer a more) (read a.before (with_more a.spot more)))

    pub lifted_steady : IsSteady lifted
    lifted_steady = record {
      ahead = λ a b y e.
          let w = lifted_ok a b y (read a.before a.spot) e in
          subst (λ (p : Y × Ahead). IsAhead a.spot p.1.spot) w.3 ((steady a.before).ahead a.spot w.1 w.0 w.2);
      names = λ a. lifted_names a (read a.before a.spot);
      stays = lifted_stays;
      refused = λ a s more e plain.
          let w = lifted_stop a s (read a.before a.spot) e in
          ap (lifted_of (longer a more)) ((steady a.before).refused a.spot s.fault more w.0 plain)
          ∙ ap (λ (ms : List Mention). Err (record { fault = s.fault; mentions = ms })) (sym w.1);
      end = λ a s at e is.
          let w = lifted_stop a s (read a.before a.spot) e in
          (steady a.before).end a.spot at (w.0 ∙ ap (λ (f : ByteFault). Err f) is);
      still_named = lifted_still;
      goes_on = λ a wants.
          let more = (steady a.before).goes_on a.spot (sym (lifted_wants a (read a.before a.spot)) ∙ wants) in
          (more.0, more.1, lifted_wants (longer a more.0) (read a.before (with_more a.spot more.0)) ∙ more.2);
    }

  -- where what is named stands from a place on
  pub lifted_inside : (from : ℕ) → ((before : Named) → IsLocalReading (read before)) → (a : Ahead) → length a.spot.left ≤ a.spot.end → from ≤ place a.spot
      → ((x : X) (s : Spot) → read a.before a.spot ≡ Ok (x, s) → AllByRecursion (IsNamedAmong from a.spot.end) (added (place a.spot) x))
      → StaysAmong from a.spot.end a.mentions (lifted a)
  lifted_inside from local a fits le names = by (read a.before a.spot) refl
    where
      by : (r : Result (X × Spot) ByteFault) → read a.before a.spot ≡ r → StaysAmong from a.spot.end a.mentions (lifted_of a r)
      by (Ok (x, s)) is = (added (place a.spot) x, refl, names x s is)
      by (Err f) is = (
        ([], sym (append-nil a.mentions), tt),
        λ plain. among_from (place a.spot) from a.spot.end a.spot.end f le refl ((local a.before).inside a.spot f fits is plain),
      )
