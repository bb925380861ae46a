-- The packages of an index: what is read stands there, and what stands there is read.
use Rattle.std.proofs.Common.{◌≡◌, ◌≢◌, ℕ, ◌<◌, List, [], ◌∷◌, length, map, Option, Some, None, not, ltb, eqb, nat_eq, Ok, refl, sym, subst, ◌∙◌, arith}
use Rattle.std.specs.List.{AllByRecursion}
use Rattle.std.specs.Cmp.Lexicographic.{slice_cmp, pointwise}
use Rattle.std.specs.Ordering.{nat_cmp, is_lt}
use Rattle.std.proofs.lemmas.Bool.{eqb-true, ltb-true, lt-ltb}
use Rattle.std.proofs.lemmas.List.{nil_from_length}
use Rattle.wire_bytes.specs.declared.fault.ByteFault.TheVariants as faults
use Rattle.wire_bytes.specs.Reading.{Spot, place, onward, ◌>>=◌, demand, InOrder, Linked}
use Rattle.wire_bytes.specs.Uvarint.{BeginsWith, uvarint_at}
use Rattle.wire_bytes.proofs.Steps.{bind_ok, demand_ok, done_is}
use Rattle.wire_bytes.proofs.Spellings.{IsBytes}
use Rattle.wire_bytes.proofs.ManyLemmas.{Takes, many_takes, many_again}
use Rattle.wire_bytes.proofs.CursorLemmas.{uvarint_at_takes, uvarint_at_again}
use Rattle.name_index.specs.FullFile.{Package}
use Rattle.wire_bytes.specs.Order.{IsBelow, RiseFrom}
use Rattle.file_parts.specs.Paths.{ArePaths}
use Rattle.name_index.specs.Envelope.{IsPackage}
use Rattle.name_index.specs.FirstBreach.{text_offset_at, entries_at, path_rule, package_at, packages_at, index_at}
use Rattle.name_index.proofs.RiseLemmas.{below_from_test, test_from_below, other_test, other_text}
use Rattle.name_index.proofs.EntryLemmas.{text_offset_takes, text_offset_again, entries_take, entries_again}

-- what a path owes to the one before it
abbrev pub PathFits : List ℕ → Option (List ℕ) → List ℕ → Type 0
PathFits own None path = path ≡ []
PathFits own (Some last) path = IsBelow last path × (path ≢ own)

abbrev pub PackageFits : List ℕ → Option (List ℕ) → Package → Type 0
PackageFits own last p = PathFits own last p.path

path_rule_ok : (own : List ℕ) (last : Option (List ℕ)) (at offset : ℕ) (path : List ℕ) (x : Unit {0}) → path_rule own last at offset path ≡ Ok x → PathFits own last path
path_rule_ok own None at offset path x e = nil_from_length path (eqb-true (length path) 0 (demand_ok (eqb (length path) 0) (faults.Range at offset) x e))
path_rule_ok own (Some last) at offset path x e =
    let rising = bind_ok (demand (is_lt (slice_cmp nat_cmp last path)) (faults.Order at)) (λ _. demand (not (pointwise nat_eq path own)) (faults.Range at offset)) x e in
    (below_from_test last path (demand_ok (is_lt (slice_cmp nat_cmp last path)) (faults.Order at) rising.0 rising.1), other_text path own (demand_ok (not (pointwise nat_eq path own)) (faults.Range at offset) x rising.2))

path_rule_again : (own : List ℕ) (last : Option (List ℕ)) (at offset : ℕ) (path : List ℕ) → PathFits own last path → path_rule own last at offset path ≡ Ok tt
path_rule_again own None at offset path fits = rw fits refl
path_rule_again own (Some last) at offset path fits = rw (test_from_below last path fits.0, other_test path own fits.1) refl

pub package_takes : (own strings : List ℕ) (size : ℕ) (last : Option (List ℕ)) (s : Spot) (x : Package) (after : Spot) → IsBytes strings → IsBytes s.left → package_at own strings size last s ≡ Ok (x, after)
    → Takes (IsPackage strings size) s x after × PackageFits own last x
unfolding package_at
package_takes own strings size last s x after texts fits e =
    let path = bind_ok (text_offset_at strings s) (λ p. path_rule own last (place s) p.0.0 p.0.1 >>= λ _. text_offset_at strings p.1 >>= λ n. uvarint_at n.1 >>= λ h. uvarint_at h.1 >>= λ c. entries_at strings size c.0 c.1 >>= λ es. Ok (record { path = p.0.1; name = n.0.1; entries = es.0 }, es.1)) (x, after) e in
    let p = path.0 in
    let rule = bind_ok (path_rule own last (place s) p.0.0 p.0.1) (λ _. text_offset_at strings p.1 >>= λ n. uvarint_at n.1 >>= λ h. uvarint_at h.1 >>= λ c. entries_at strings size c.0 c.1 >>= λ es. Ok (record { path = p.0.1; name = n.0.1; entries = es.0 }, es.1)) (x, after) path.2 in
    let name = bind_ok (text_offset_at strings p.1) (λ n. uvarint_at n.1 >>= λ h. uvarint_at h.1 >>= λ c. entries_at strings size c.0 c.1 >>= λ es. Ok (record { path = p.0.1; name = n.0.1; entries = es.0 }, es.1)) (x, after) rule.2 in
    let n = name.0 in
    let height = bind_ok (uvarint_at n.1) (λ h. uvarint_at h.1 >>= λ c. entries_at strings size c.0 c.1 >>= λ es. Ok (record { path = p.0.1; name = n.0.1; entries = es.0 }, es.1)) (x, after) name.2 in
    let h = height.0 in
    let count = bind_ok (uvarint_at h.1) (λ c. entries_at strings size c.0 c.1 >>= λ es. Ok (record { path = p.0.1; name = n.0.1; entries = es.0 }, es.1)) (x, after) height.2 in
    let c = count.0 in
    let entries = bind_ok (entries_at strings size c.0 c.1) (λ es. Ok (record { path = p.0.1; name = n.0.1; entries = es.0 }, es.1)) (x, after) count.2 in
    let es = entries.0 in
    let t0 = text_offset_takes strings s p.0 p.1 texts fits path.1 in
    let t1 = text_offset_takes strings p.1 n.0 n.1 texts t0.fits name.1 in
    let t2 = uvarint_at_takes n.1 h.0 h.1 t1.fits height.1 in
    let t3 = uvarint_at_takes h.1 c.0 c.1 t2.fits count.1 in
    let t4 = entries_take strings size c.0 c.1 es.0 es.1 texts t3.fits entries.1 in
    let made : Package × Spot = (record { path = p.0.1; name = n.0.1; entries = es.0 }, es.1) in
    subst (λ (y : Package × Spot). Takes (IsPackage strings size) s y.0 y.1 × PackageFits own last y.0) (done_is made (x, after) entries.2) (
      record {
        stands = record {
          at_name = p.1.left;
          at_height = n.1.left;
          at_count = h.1.left;
          at_entries = c.1.left;
          height = h.0;
          path = (p.0.0, t0.stands.0, t0.stands.1);
          name = (n.0.0, t1.stands.0, t1.stands.1);
          any_height = t2.stands;
          count = subst (λ (k : ℕ). BeginsWith h.1.left k c.1.left) (sym t4.2) t3.stands;
          entries = t4.0.stands;
          names_rise = t4.1;
        };
        same_end = t4.0.same_end ∙ t3.same_end ∙ t2.same_end ∙ t1.same_end ∙ t0.same_end;
        fits = t4.0.fits;
      },
      path_rule_ok own last (place s) p.0.0 p.0.1 rule.0 rule.1,
    )

pub package_again : (own strings : List ℕ) (size : ℕ) (last : Option (List ℕ)) (s : Spot) (x : Package) (rest : List ℕ) → IsPackage strings size s.left x rest → PackageFits own last x
    → package_at own strings size last s ≡ Ok (x, onward s rest)
unfolding package_at
package_again own strings size last s x rest stands fits =
    let path : text_offset_at strings s ≡ Ok ((stands.path.0, x.path), onward s stands.at_name) = text_offset_again strings s (stands.path.0, x.path) stands.at_name (stands.path.1, stands.path.2) in
    let name : text_offset_at strings (onward s stands.at_name) ≡ Ok ((stands.name.0, x.name), onward s stands.at_height) = text_offset_again strings (onward s stands.at_name) (stands.name.0, x.name) stands.at_height (stands.name.1, stands.name.2) in
    let height : uvarint_at (onward s stands.at_height) ≡ Ok (stands.height, onward s stands.at_count) = uvarint_at_again (onward s stands.at_height) stands.height stands.at_count stands.any_height in
    let count : uvarint_at (onward s stands.at_count) ≡ Ok (length x.entries, onward s stands.at_entries) = uvarint_at_again (onward s stands.at_count) (length x.entries) stands.at_entries stands.count in
    let entries : entries_at strings size (length x.entries) (onward s stands.at_entries) ≡ Ok (x.entries, onward s rest) = entries_again strings size (onward s stands.at_entries) x.entries rest stands.entries stands.names_rise in
    rw (path, path_rule_again own last (place s) stands.path.0 x.path fits, name, height, count, entries) refl

-- ---- all packages

linked_paths_from : (own last : List ℕ) (ps : List Package) → Linked (PackageFits own) (λ p. Some p.path) (Some last) ps → RiseFrom last (map (λ p. p.path) ps) × AllByRecursion (λ t. t ≢ own) (map (λ p. p.path) ps)
linked_paths_from own last [] linked = (tt, tt)
linked_paths_from own last (p ∷ ps) linked =
    let rest = linked_paths_from own p.path ps linked.1 in
    ((linked.0.0, rest.0), (linked.0.1, rest.1))

linked_paths : (own : List ℕ) (ps : List Package) → 0 < length ps → Linked (PackageFits own) (λ p. Some p.path) None ps → ArePaths own (map (λ p. p.path) ps)
linked_paths own [] some linked = absurd (omega arith)
linked_paths own (p ∷ ps) some linked =
    let rest = linked_paths_from own p.path ps linked.1 in
    (linked.0, subst (λ (t : List ℕ). RiseFrom t (map (λ q. q.path) ps)) linked.0 rest.0, rest.1)

paths_linked_from : (own last : List ℕ) (ps : List Package) → RiseFrom last (map (λ p. p.path) ps) → AllByRecursion (λ t. t ≢ own) (map (λ p. p.path) ps) → Linked (PackageFits own) (λ p. Some p.path) (Some last) ps
paths_linked_from own last [] rising others = tt
paths_linked_from own last (p ∷ ps) rising others = ((rising.0, others.0), paths_linked_from own p.path ps rising.1 others.1)

paths_linked : (own : List ℕ) (ps : List Package) → ArePaths own (map (λ p. p.path) ps) → Linked (PackageFits own) (λ p. Some p.path) None ps
paths_linked own [] paths = elim paths [ ]
paths_linked own (p ∷ ps) paths = (paths.0, paths_linked_from own p.path ps (subst (λ (t : List ℕ). RiseFrom t (map (λ q. q.path) ps)) (sym paths.0) paths.1) paths.2)

some_paths : (own : List ℕ) (ps : List Package) → ArePaths own (map (λ p. p.path) ps) → 0 < length ps
some_paths own [] paths = elim paths [ ]
some_paths own (p ∷ ps) paths = omega arith

-- the count of the packages, and the packages
pub record IsIndex (own strings : List ℕ) (size : ℕ) (bytes : List ℕ) (ps : List Package) (rest : List ℕ) : Type 0 where
  pub at_packages : List ℕ
  pub count : BeginsWith bytes (length ps) at_packages
  pub packages : InOrder (IsPackage strings size) at_packages ps rest
  pub paths : ArePaths own (map (λ p. p.path) ps)

pub index_takes : (own strings : List ℕ) (size : ℕ) (s : Spot) (xs : List Package) (after : Spot) → IsBytes strings → IsBytes s.left → index_at own strings size s ≡ Ok (xs, after)
    → Takes (IsIndex own strings size) s xs after
unfolding index_at
index_takes own strings size s xs after texts fits e =
    let count = bind_ok (uvarint_at s) (λ c. demand (ltb 0 c.0) (faults.Range (place s) 0) >>= λ _. packages_at own strings size c.0 c.1) (xs, after) e in
    let c = count.0 in
    let some = bind_ok (demand (ltb 0 c.0) (faults.Range (place s) 0)) (λ _. packages_at own strings size c.0 c.1) (xs, after) count.2 in
    let first = uvarint_at_takes s c.0 c.1 fits count.1 in
    let taken = many_takes (package_at own strings size) (λ p. Some p.path) (IsPackage strings size) (PackageFits own) (λ k s x after fits e. package_takes own strings size k s x after texts fits e) c.0 None c.1 xs after first.fits some.2 in
    let positive : 0 < c.0 = ltb-true 0 c.0 (demand_ok (ltb 0 c.0) (faults.Range (place s) 0) some.0 some.1) in
    record {
      stands = record {
        at_packages = c.1.left;
        count = subst (λ (k : ℕ). BeginsWith s.left k c.1.left) (sym taken.2) first.stands;
        packages = taken.0.stands;
        paths = linked_paths own xs (omega (arith, positive, taken.2)) taken.1;
      };
      same_end = taken.0.same_end ∙ first.same_end;
      fits = taken.0.fits;
    }

pub index_again : (own strings : List ℕ) (size : ℕ) (s : Spot) (xs : List Package) (rest : List ℕ) → IsIndex own strings size s.left xs rest → index_at own strings size s ≡ Ok (xs, onward s rest)
unfolding index_at
index_again own strings size s xs rest stands =
    let count : uvarint_at s ≡ Ok (length xs, onward s stands.at_packages) = uvarint_at_again s (length xs) stands.at_packages stands.count in
    let packages : packages_at own strings size (length xs) (onward s stands.at_packages) ≡ Ok (xs, onward s rest)
    = many_again (package_at own strings size) (λ p. Some p.path) (IsPackage strings size) (PackageFits own) (λ k s x rest stands fits. package_again own strings size k s x rest stands fits) None (onward s stands.at_packages) xs rest stands.packages (paths_linked own xs stands.paths) in
    rw (count, lt-ltb 0 (length xs) (some_paths own xs stands.paths), packages) refl
