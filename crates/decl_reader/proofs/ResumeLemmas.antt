-- Open descriptors, as reading types goes from one to the next.
use Rattle.std.proofs.Common.{◌≡◌, ℕ, ◌-◌, ◌<◌, ◌≤◌, List, [], ◌∷◌, true, false, cond, Result, Ok, Err, Some, None, refl, ◌∙◌, ap}
use Rattle.std.proofs.lemmas.Bool.{lt-ltb, le-ltb, le-leb, lt-leb}
use Rattle.wire_bytes.specs.declared.fault.ByteFault.{ByteFault}
use Rattle.wire_bytes.specs.declared.fault.ByteFault.TheVariants as faults
use Rattle.wire_bytes.specs.Reading.{◌>>=◌, demand}
use Rattle.std.specs.Prelude.{is_some}
use Rattle.code_tables.specs.declared.predeclared.Basic.{Basic}
use Rattle.type_terms.specs.Trees.{Tree}
use Rattle.decl_spelling.specs.declared.mention.Mention.{Mention}
use Rattle.decl_spelling.specs.Codes.{basic_of}
use Rattle.decl_spelling.specs.Sections.{Sections, window}
use Rattle.decl_spelling.specs.Reading.{Ahead, Stopped, start}
use Rattle.decl_spelling.specs.Descriptors.{Flat, flat_at}
use Rattle.decl_spelling.specs.Tables.{Finished, Table, at, free_to, type_named}
use Rattle.decl_spelling.specs.Descent.{ReadsBlock, meets, unmet, named_at, found_or_read, with_basic, with_descriptor, with_type, resolve, resolve_all, finish, block_at}
use Rattle.decl_spelling.proofs.Bounds.{bind_same, block_opens, not_ended, named_then}
use Rattle.decl_reader.specs.Frames.{Frame, own_of, mentions_of, answered, with_shape, closed_by, closed, resume}

bind_twice : {E A B C : Type 0} (r : Result A E) (f : A → Result B E) (g : B → Result C E) → ((r >>= f) >>= g) ≡ (r >>= λ x. f x >>= g)
bind_twice (Ok x) f g = refl
bind_twice (Err e) f g = refl

-- a fault ends what would follow
stays_named : (m : Mention) (f : ByteFault) (g : Table → Result Table ByteFault) → (named_at m (Err f) >>= g) ≡ named_at m (Err f)
stays_named m (faults.Ended place) g = refl
stays_named m (faults.Number at) g = refl
stays_named m (faults.Range at value) g = refl
stays_named m (faults.Tag at value) g = refl
stays_named m (faults.Order at) g = refl
stays_named m (faults.Version found) g = refl
stays_named m (faults.Wide at) g = refl
stays_named m (faults.Float at) g = refl
stays_named m (faults.NotConst at) g = refl
stays_named m (faults.Trailing at) g = refl

module _ (src : Sections) (big holder : ℕ) (m : Mention) (done : Table) where
  abbrev offset : ℕ
  offset = m.value - 32

  abbrev read : ReadsBlock
  read = block_at src big

  -- what a descriptor that is named here comes to
  finish_named : (x : Result (Flat × Ahead) Stopped)
      → (named_at m (finish src read offset x done) >>= answered src.version m) ≡ (resolve_all src read offset (mentions_of x) done >>= closed_by src.version offset m (own_of src x))
  finish_named (Ok x) =
      ap (λ (r : Result Table ByteFault). r >>= answered src.version m) (named_then m (resolve_all src read offset (x.1).mentions done) (λ known. Ok (with_shape src.version offset (x.0, _) known)) (not_ended src read offset (x.1).mentions done))
      ∙ bind_twice (resolve_all src read offset (x.1).mentions done) (λ known. Ok (with_shape src.version offset (x.0, _) known)) (answered src.version m)
  finish_named (Err stopped) =
      ap (λ (r : Result Table ByteFault). r >>= answered src.version m) (named_then m (resolve_all src read offset stopped.mentions done) (λ known. Err stopped.fault) (not_ended src read offset stopped.mentions done))
      ∙ bind_twice (resolve_all src read offset stopped.mentions done) (λ known. named_at m (Err stopped.fault)) (answered src.version m)
      ∙ bind_same (resolve_all src read offset stopped.mentions done) (λ known. named_at m (Err stopped.fault) >>= answered src.version m) (λ known. named_at m (Err stopped.fault)) (λ known. stays_named m stopped.fault (answered src.version m))

  named_new : 32 ≤ m.value → offset < holder → at done offset ≡ None → with_type src read holder m done ≡ named_at m (read offset holder done)
  named_new large below none =
      ap (λ b. cond b (with_basic src.version m done) (with_descriptor read holder m done)) (le-ltb m.value 32 large)
      ∙ ap (λ b. demand b (faults.Range m.at m.value) >>= λ before. found_or_read read holder m done (at done offset)) (lt-ltb offset holder below)
      ∙ ap (found_or_read read holder m done) none

  -- a type whose descriptor wasn't read before
  pub begins : (x : Result (Flat × Ahead) Stopped) → 32 ≤ m.value → offset < holder → offset < big → at done offset ≡ None → flat_at src (start (window src offset (free_to offset holder done))) ≡ x
      → resolve src read holder m done ≡ (resolve_all src read offset (mentions_of x) done >>= closed_by src.version offset m (own_of src x))
  begins x large below small none is =
      ap (λ (r : Result Table ByteFault). r >>= answered src.version m) (named_new large below none ∙ ap (named_at m) (block_opens src big offset holder done small ∙ ap (λ y. finish src read offset y done) is))
      ∙ finish_named x

  -- one that was read before
  pub found_before : (f : Finished) → 32 ≤ m.value → offset < holder → at done offset ≡ Some f → f.end ≤ holder → resolve src read holder m done ≡ answered src.version m done
  found_before f large below is ends =
      ap (λ (r : Result Table ByteFault). r >>= answered src.version m)
      (ap (λ b. cond b (with_basic src.version m done) (with_descriptor read holder m done)) (le-ltb m.value 32 large)
      ∙ ap (λ b. demand b (faults.Range m.at m.value) >>= λ before. found_or_read read holder m done (at done offset)) (lt-ltb offset holder below)
      ∙ ap (found_or_read read holder m done) is
      ∙ ap (λ b. demand b (faults.Range m.at m.value) >>= λ u. Ok done) (le-leb f.end holder ends))

  -- one that runs into its holder
  pub runs_over : (f : Finished) → 32 ≤ m.value → offset < holder → at done offset ≡ Some f → holder < f.end → resolve src read holder m done ≡ Err (faults.Range m.at m.value)
  runs_over f large below is ends =
      ap (λ (r : Result Table ByteFault). r >>= answered src.version m)
      (ap (λ b. cond b (with_basic src.version m done) (with_descriptor read holder m done)) (le-ltb m.value 32 large)
      ∙ ap (λ b. demand b (faults.Range m.at m.value) >>= λ before. found_or_read read holder m done (at done offset)) (lt-ltb offset holder below)
      ∙ ap (found_or_read read holder m done) is
      ∙ ap (λ b. demand b (faults.Range m.at m.value) >>= λ u. Ok done) (lt-leb f.end holder ends))

  -- an offset that isn't below the holder's start
  pub not_before : 32 ≤ m.value → holder ≤ offset → resolve src read holder m done ≡ Err (faults.Range m.at m.value)
  not_before large behind =
      ap (λ (r : Result Table ByteFault). r >>= answered src.version m)
      (ap (λ b. cond b (with_basic src.version m done) (with_descriptor read holder m done)) (le-ltb m.value 32 large)
      ∙ ap (λ b. demand b (faults.Range m.at m.value) >>= λ before. found_or_read read holder m done (at done offset)) (le-ltb offset holder behind))

  pub basic_there : (basic : Basic) → m.value < 32 → basic_of src.version m.value ≡ Some basic → resolve src read holder m done ≡ answered src.version m done
  basic_there basic small is =
      ap (λ (r : Result Table ByteFault). r >>= answered src.version m)
      (ap (λ b. cond b (with_basic src.version m done) (with_descriptor read holder m done)) (lt-ltb m.value 32 small)
      ∙ ap (λ a. demand (is_some a) (faults.Range m.at m.value) >>= λ u. Ok done) is)

  pub no_basic : m.value < 32 → basic_of src.version m.value ≡ None → resolve src read holder m done ≡ Err (faults.Range m.at m.value)
  no_basic small none =
      ap (λ (r : Result Table ByteFault). r >>= answered src.version m)
      (ap (λ b. cond b (with_basic src.version m done) (with_descriptor read holder m done)) (lt-ltb m.value 32 small)
      ∙ ap (λ a. demand (is_some a) (faults.Range m.at m.value) >>= λ u. Ok done) none)

pub is_answered : (version : ℕ) (m : Mention) (done : Table) (tree : Tree) → type_named version done m.value ≡ tree → meets m.asked tree ≡ true → answered version m done ≡ Ok done
is_answered version m done tree is met = ap (λ t. demand (meets m.asked t) (unmet m m.asked) >>= λ u. Ok done) is ∙ ap (λ b. demand b (unmet m m.asked) >>= λ u. Ok done) met

pub is_unmet : (version : ℕ) (m : Mention) (done : Table) (tree : Tree) → type_named version done m.value ≡ tree → meets m.asked tree ≡ false → answered version m done ≡ Err (unmet m m.asked)
is_unmet version m done tree is met = ap (λ t. demand (meets m.asked t) (unmet m m.asked) >>= λ u. Ok done) is ∙ ap (λ b. demand b (unmet m m.asked) >>= λ u. Ok done) met

-- ---- the turns of the loop

module _ (src : Sections) (read : ReadsBlock) where
  abbrev pub with_left : Frame → List Mention → Frame
  with_left f ms = record { start = f.start; left = ms; own = f.own; named = f.named }

  pub turn_known : (f : Frame) (fs : List Frame) (m : Mention) (ms : List Mention) (done : Table) → f.left ≡ m ∷ ms → resolve src read f.start m done ≡ Ok done
      → resume src read (f ∷ fs) done ≡ resume src read (with_left f ms ∷ fs) done
  turn_known f fs m ms done is known =
      ap (λ left. resolve_all src read f.start left done >>= λ k. closed src.version f k >>= λ after. resume src read fs after) is
      ∙ ap (λ (r : Result Table ByteFault). (r >>= resolve_all src read f.start ms) >>= λ k. closed src.version f k >>= λ after. resume src read fs after) known

  pub turn_fault : (f : Frame) (fs : List Frame) (m : Mention) (ms : List Mention) (done : Table) (e : ByteFault) → f.left ≡ m ∷ ms → resolve src read f.start m done ≡ Err e
      → resume src read (f ∷ fs) done ≡ Err e
  turn_fault f fs m ms done e is fault =
      ap (λ left. resolve_all src read f.start left done >>= λ k. closed src.version f k >>= λ after. resume src read fs after) is
      ∙ ap (λ (r : Result Table ByteFault). (r >>= resolve_all src read f.start ms) >>= λ k. closed src.version f k >>= λ after. resume src read fs after) fault

  pub turn_opens : (f : Frame) (fs : List Frame) (m : Mention) (ms : List Mention) (done : Table) (inner : Frame) → f.left ≡ m ∷ ms
      → resolve src read f.start m done ≡ (resolve_all src read inner.start inner.left done >>= closed src.version inner)
      → resume src read (f ∷ fs) done ≡ resume src read (inner ∷ with_left f ms ∷ fs) done
  turn_opens f fs m ms done inner is opened =
      ap (λ left. resolve_all src read f.start left done >>= λ k. closed src.version f k >>= λ after. resume src read fs after) is
      ∙ ap (λ (r : Result Table ByteFault). (r >>= resolve_all src read f.start ms) >>= λ k. closed src.version f k >>= λ after. resume src read fs after) opened
      ∙ ap (λ (r : Result Table ByteFault). r >>= λ k. closed src.version f k >>= λ after. resume src read fs after)
      (bind_twice (resolve_all src read inner.start inner.left done) (closed src.version inner) (resolve_all src read f.start ms))
      ∙ bind_twice (resolve_all src read inner.start inner.left done) (λ x. closed src.version inner x >>= resolve_all src read f.start ms) (λ k. closed src.version f k >>= λ after. resume src read fs after)
      ∙ bind_same (resolve_all src read inner.start inner.left done)
      (λ x. (closed src.version inner x >>= resolve_all src read f.start ms) >>= λ k. closed src.version f k >>= λ after. resume src read fs after)
      (λ x. closed src.version inner x >>= λ after. resume src read (with_left f ms ∷ fs) after)
      (λ x. bind_twice (closed src.version inner x) (resolve_all src read f.start ms) (λ k. closed src.version f k >>= λ after. resume src read fs after))

  pub turn_closes : (f : Frame) (fs : List Frame) (done : Table) → f.left ≡ [] → resume src read (f ∷ fs) done ≡ (closed src.version f done >>= resume src read fs)
  turn_closes f fs done is = ap (λ left. resolve_all src read f.start left done >>= λ k. closed src.version f k >>= λ after. resume src read fs after) is
