-- What a mention needs, where its type is known already.
use Rattle.std.proofs.Common.{◌≡◌, ℕ, ◌-◌, ◌<◌, ◌≤◌, true, Result, Ok, Err, Option, Some, None, length, refl, sym, ◌∙◌, ap, inl, inr, ◌⊎◌}
use Rattle.std.specs.Prelude.{nat_le, is_some}
use Rattle.std.proofs.lemmas.Bool.{cases_lt, le-leb, lt-leb, leb-true}
use Rattle.code_tables.specs.declared.predeclared.Basic.{Basic}
use Rattle.wire_bytes.specs.declared.fault.ByteFault.{ByteFault}
use Rattle.wire_bytes.specs.declared.fault.ByteFault.TheVariants as faults
use Rattle.wire_bytes.specs.Reading.{◌>>=◌, demand}
use Rattle.wire_bytes.proofs.Steps.{bind_ok, demand_ok}
use Rattle.type_terms.specs.Trees.{Tree, predeclared}
use Rattle.decl_spelling.specs.declared.mention.Mention.{Mention}
use Rattle.decl_spelling.specs.Sections.{Sections}
use Rattle.decl_spelling.specs.Codes.{basic_of}
use Rattle.decl_spelling.specs.Tables.{Finished, Table, at, type_named, basic_tree, finished_tree}
use Rattle.decl_spelling.specs.Descent.{meets, unmet, resolve}
use Rattle.decl_spelling.specs.KnownTypes.{IsAnswered}
use Rattle.decl_spelling.proofs.KnownTypeLemmas.{named_basic, named_block}
use Rattle.decl_reader.specs.Frames.{answered}
use Rattle.decl_reader.specs.Opens.{reads, checked_type, checked_basic, checked_finished}
use Rattle.decl_reader.proofs.ResumeLemmas.{basic_there, no_basic, found_before, runs_over}

module _ (src : Sections) (holder : ℕ) (m : Mention) (done : Table) where
  by_type : (tree : Tree) → type_named src.version done m.value ≡ tree → answered src.version m done ≡ (checked_type m tree >>= λ u. Ok done)
  by_type tree is = ap (λ (t : Tree). demand (meets m.asked t) (unmet m m.asked) >>= λ u. Ok done) is

  basic_by : (a : Option Basic) → m.value < 32 → basic_of src.version m.value ≡ a → resolve src (reads src) holder m done ≡ (checked_basic m a >>= λ u. Ok done)
  basic_by (Some basic) small is = basic_there src (length src.body) holder m done basic small is ∙ by_type (predeclared basic) (named_basic src done m.value small ∙ ap basic_tree is)
  basic_by None small is = no_basic src (length src.body) holder m done small is

  pub basic_answer : m.value < 32 → resolve src (reads src) holder m done ≡ (checked_basic m (basic_of src.version m.value) >>= λ u. Ok done)
  basic_answer small = basic_by (basic_of src.version m.value) small refl

  pub basic_fault : (f : ByteFault) → m.value < 32 → checked_basic m (basic_of src.version m.value) ≡ Err f → resolve src (reads src) holder m done ≡ Err f
  basic_fault f small fault = basic_answer small ∙ ap (λ (r : Result (Unit {0}) ByteFault). r >>= λ u. Ok done) fault

  basic_met : (a : Option Basic) (u : Unit {0}) → m.value < 32 → basic_of src.version m.value ≡ a → checked_basic m a ≡ Ok u → IsAnswered src done holder m
  basic_met (Some basic) u small is ok =
      (inl (small, ap is_some is), ap (meets m.asked) (named_basic src done m.value small ∙ ap basic_tree is) ∙ demand_ok (meets m.asked (predeclared basic)) (unmet m m.asked) u ok)
  basic_met None u small is ok = absurd (cc)

  pub basic_known : (u : Unit {0}) → m.value < 32 → checked_basic m (basic_of src.version m.value) ≡ Ok u → (resolve src (reads src) holder m done ≡ Ok done) × IsAnswered src done holder m
  basic_known u small ok =
      (basic_answer small ∙ ap (λ (r : Result (Unit {0}) ByteFault). r >>= λ v. Ok done) ok, basic_met (basic_of src.version m.value) u small refl ok)

  finished_by : (f : Finished) → 32 ≤ m.value → m.value - 32 < holder → at done (m.value - 32) ≡ Some f → (f.end ≤ holder) ⊎ (holder < f.end)
      → resolve src (reads src) holder m done ≡ (checked_finished holder m f >>= λ u. Ok done)
  finished_by f large before is (inl ends) =
      found_before src (length src.body) holder m done f large before is ends ∙ by_type f.tree (named_block src done m.value large ∙ ap finished_tree is)
      ∙ sym (ap (λ b. (demand b (faults.Range m.at m.value) >>= λ u. checked_type m f.tree) >>= λ u. Ok done) (le-leb f.end holder ends))
  finished_by f large before is (inr over) =
      runs_over src (length src.body) holder m done f large before is over
      ∙ sym (ap (λ b. (demand b (faults.Range m.at m.value) >>= λ u. checked_type m f.tree) >>= λ u. Ok done) (lt-leb f.end holder over))

  either : (m n : ℕ) → (m ≤ n) ⊎ (n < m)
  either m n = elim (cases_lt n m) [ inl less ↦ inr less | inr more ↦ inl more ]

  pub finished_answer : (f : Finished) → 32 ≤ m.value → m.value - 32 < holder → at done (m.value - 32) ≡ Some f → resolve src (reads src) holder m done ≡ (checked_finished holder m f >>= λ u. Ok done)
  finished_answer f large before is = finished_by f large before is (either f.end holder)

  pub finished_fault : (f : Finished) (e : ByteFault) → 32 ≤ m.value → m.value - 32 < holder → at done (m.value - 32) ≡ Some f → checked_finished holder m f ≡ Err e → resolve src (reads src) holder m done ≡ Err e
  finished_fault f e large before is fault = finished_answer f large before is ∙ ap (λ (r : Result (Unit {0}) ByteFault). r >>= λ u. Ok done) fault

  pub finished_known : (f : Finished) (u : Unit {0}) → 32 ≤ m.value → m.value - 32 < holder → at done (m.value - 32) ≡ Some f → checked_finished holder m f ≡ Ok u
      → (resolve src (reads src) holder m done ≡ Ok done) × IsAnswered src done holder m
  finished_known f u large before is ok =
      let tests = bind_ok (demand (nat_le f.end holder) (faults.Range m.at m.value)) (λ v. checked_type m f.tree) u ok in
      let ends : f.end ≤ holder = leb-true f.end holder (demand_ok (nat_le f.end holder) (faults.Range m.at m.value) tests.0 tests.1) in
      let met : meets m.asked f.tree ≡ true = demand_ok (meets m.asked f.tree) (unmet m m.asked) u tests.2 in (
        finished_answer f large before is ∙ ap (λ (r : Result (Unit {0}) ByteFault). r >>= λ v. Ok done) ok,
        (inr (large, f, is, ends), ap (meets m.asked) (named_block src done m.value large ∙ ap finished_tree is) ∙ met),
      )
