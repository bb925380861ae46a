-- A whole declaration depends only on the bytes up to where it ends, or up to where its fault is met.
use Rattle.std.proofs.Common.{◌≡◌, ℕ, ◌≤◌, Bool, true, false, List, [], length, Option, Some, None, Result, Ok, Err, refl, sym, ap, ◌∙◌, inl, inr}
use Rattle.code_tables.specs.declared.predeclared.Basic.{Basic}
use Rattle.wire_bytes.specs.declared.fault.ByteFault.{ByteFault}
use Rattle.wire_bytes.specs.declared.fault.ByteFault.TheVariants as faults
use Rattle.wire_bytes.specs.Reading.{◌>>=◌}
use Rattle.wire_bytes.specs.Local.{is_ended, wants_more as wants}
use Rattle.wire_bytes.proofs.LocalLemmas.{place_more, bind_err, fault_is}
use Rattle.wire_bytes.proofs.Steps.{bind_ok}
use Rattle.type_terms.specs.Declarations.{constant_of, defined_of, Decl}
use Rattle.decl_spelling.specs.Sections.{Sections, Basics, window}
use Rattle.decl_spelling.specs.Spelled.{SpelledPos, SpelledType, SpelledConst}
use Rattle.decl_spelling.specs.Reading.{Ahead, Stopped, start, list_at}
use Rattle.decl_spelling.specs.Tables.{Table, type_spelled}
use Rattle.decl_spelling.specs.Constants.{Spelling, Kind, spelled, floating, none, kind_of, spelling_by, spelling_at, basic_type, value_at}
use Rattle.decl_spelling.specs.Declarations.{FlatForm, Receiver, Head, whole, of_type, of_constant, head_at, receiver_at, resolved, has_methods, Read, read, methods_of, after_type, fault_alone, after_constant, after_head, read_at, decl_of, decl_at}
use Rattle.decl_locality.specs.LocalReaders.{longer}
use Rattle.decl_locality.specs.LongerFiles.{with_behind}
use Rattle.decl_locality.proofs.SteadyLemmas.{longer_twice}
use Rattle.decl_locality.proofs.DeclarationReaders.{head_local, receivers_local, value_local}
use Rattle.decl_locality.proofs.SameReaders.{head_same, receivers_same, value_same}
use Rattle.decl_locality.proofs.BlockStays.{start_longer, resolve_stays}
use Rattle.decl_locality.proofs.Settling.{IsSettled, settled}
use Rattle.decl_locality.proofs.PartStays.{end_ahead, grow_value, end_value, alone_part, Typed, grow_typed, end_typed, resolved_part}

abbrev read_failed : (Y : Type 0) → ByteFault → Result Y ByteFault
read_failed Y f = Err f

-- ---- what is read behind the head

read_settled : (form : FlatForm) (value : Option ℕ) (done : Table) → IsSettled longer end_ahead (λ a. read form value a done)
read_settled form value done = record {
  stays = λ a y more e. ap (λ (n : ℕ). Ok (record { form = form; value = value; end = n; table = done })) (place_more a.spot more) ∙ e;
  refused = λ a f more e plain. absurd cc;
  end = λ a at e. absurd cc;
  goes_on = λ a e. absurd cc;
}

methods_settled : (pos : SpelledPos) (tparams : List SpelledType) (underlying : SpelledType) → IsSettled grow_typed end_typed (methods_of pos tparams underlying)
methods_settled pos tparams underlying = record {
  stays = λ w y more e. (read_settled (defined_of pos tparams underlying w.0.0) None w.1).stays w.0.1 y more e;
  refused = λ w f more e plain. absurd cc;
  end = λ w at e. absurd cc;
  goes_on = λ w e. absurd cc;
}

value_settled : (pos : SpelledPos) (type : SpelledType) (done : Table) → IsSettled grow_value end_value (λ (v : SpelledConst × Ahead). read (constant_of pos type (v.0).value) (v.0).offset v.1 done)
value_settled pos type done = record {
  stays = λ v y more e. (read_settled (constant_of pos type (v.0).value) (v.0).offset done).stays v.1 y more e;
  refused = λ v f more e plain. absurd cc;
  end = λ v at e. absurd cc;
  goes_on = λ v e. absurd cc;
}

-- a fault that is known before anything is read
failed_settled : (Y : Type 0) (f : ByteFault) → is_ended f ≡ false → IsSettled longer end_ahead (λ a. read_failed Y f)
failed_settled Y f plain = record {
  stays = λ a y more e. absurd cc;
  refused = λ a g more e other. e;
  end = λ a at e. absurd (let is : f ≡ faults.Ended at = fault_is f (faults.Ended at) e in let no = ap is_ended is in cc);
  goes_on = λ a e. absurd cc;
}

kind_plain : (at : ℕ) (kind : Kind) (f : ByteFault) → spelling_by at kind ≡ Err f → is_ended f ≡ false
kind_plain at (spelled spelling) f e = absurd cc
kind_plain at floating f e = sym (ap is_ended (fault_is (faults.Float at) f e))
kind_plain at none f e = sym (ap is_ended (fault_is (faults.NotConst at) f e))

spelling_plain : (at : ℕ) (basic : Option Basic) (f : ByteFault) → spelling_at at basic ≡ Err f → is_ended f ≡ false
spelling_plain at (Some basic) f e = kind_plain at (kind_of basic) f e
spelling_plain at None f e = sym (ap is_ended (fault_is (faults.NotConst at) f e))

module _ (src : Sections) (basics : Basics) (offset : ℕ) where
  type_settled : (pos : SpelledPos) (tparams : List SpelledType) (underlying : SpelledType) (done : Table) (methods : Bool) → IsSettled longer end_ahead (λ a. after_type src offset pos tparams underlying a done methods)
  type_settled pos tparams underlying done true =
      settled longer end_ahead grow_typed end_typed longer_twice (λ a. resolved src offset (list_at (receiver_at src) a) done) (methods_of pos tparams underlying)
      (resolved_part src offset done (list_at (receiver_at src)) (receivers_local src).steady) (methods_settled pos tparams underlying)
  type_settled pos tparams underlying done false = read_settled (defined_of pos tparams underlying []) None done

  constant_settled : (pos : SpelledPos) (type : SpelledType) (at : ℕ) (done : Table) → IsSettled longer end_ahead (λ a. after_constant src basics pos type at a done)
  constant_settled pos type at done = by (spelling_at at (basic_type basics (type_spelled src.version done type))) (spelling_plain at (basic_type basics (type_spelled src.version done type)))
    where
      by : (r : Result Spelling ByteFault) → ((f : ByteFault) → r ≡ Err f → is_ended f ≡ false)
          → IsSettled longer end_ahead (λ a. r >>= λ spelling. fault_alone (value_at src spelling a) >>= λ value. read (constant_of pos type (value.0).value) (value.0).offset value.1 done)
      by (Ok spelling) plain =
          settled longer end_ahead grow_value end_value longer_twice (λ a. fault_alone (value_at src spelling a)) (λ (v : SpelledConst × Ahead). read (constant_of pos type (v.0).value) (v.0).offset v.1 done)
          (alone_part (value_at src spelling) (value_local src spelling).steady) (value_settled pos type done)
      by (Err f) plain = failed_settled Read f (plain f refl)

  each_settled : (head : Head) (done : Table) → IsSettled longer end_ahead (λ a. after_head src basics offset head a done)
  each_settled (whole form) done = read_settled form None done
  each_settled (of_type pos tparams underlying) done = type_settled pos tparams underlying done (has_methods (type_spelled src.version done underlying))
  each_settled (of_constant pos type at) done = constant_settled pos type at done

  abbrev pub after_typed : Typed Head → Result Read ByteFault
  after_typed w = after_head src basics offset w.0.0 w.0.1 w.1

  next_settled : IsSettled grow_typed end_typed after_typed
  next_settled = record {
    stays = λ w y more e. (each_settled w.0.0 w.1).stays w.0.1 y more e;
    refused = λ w f more e plain. (each_settled w.0.0 w.1).refused w.0.1 f more e plain;
    end = λ w at e. (each_settled w.0.0 w.1).end w.0.1 at e;
    goes_on = λ w e. (each_settled w.0.0 w.1).goes_on w.0.1 e;
  }

  -- a declaration from what is left of its block
  abbrev pub read_from : Ahead → Result Read ByteFault
  read_from a = resolved src offset (head_at src a) [] >>= after_typed

  abbrev pub decl_from : Ahead → Result Decl ByteFault
  decl_from a = read_from a >>= λ x. Ok (decl_of src x)

  from_settled : IsSettled longer end_ahead read_from
  from_settled =
      settled longer end_ahead grow_typed end_typed longer_twice (λ a. resolved src offset (head_at src a) []) after_typed
      (resolved_part src offset [] (head_at src) (head_local src).steady) next_settled

  abbrev meaning : Read → Result Decl ByteFault
  meaning x = Ok (decl_of src x)

  meant_wants : (r : Result Read ByteFault) → wants (r >>= meaning) ≡ wants r
  meant_wants (Ok x) = refl
  meant_wants (Err f) = refl

  pub decl_settled : IsSettled longer end_ahead decl_from
  decl_settled = record {
    stays = λ a y more e.
        let w = bind_ok (read_from a) (λ x. Ok (decl_of src x)) y e in
        ap (λ (r : Result Read ByteFault). r >>= λ x. Ok (decl_of src x)) (from_settled.stays a w.0 more w.1) ∙ w.2;
    refused = λ a f more e plain. elim (bind_err (read_from a) (λ x. Ok (decl_of src x)) f e) [
      | inl one ↦ ap (λ (r : Result Read ByteFault). r >>= λ x. Ok (decl_of src x)) (from_settled.refused a f more one plain)
      | inr two ↦ absurd (let no = two.2 in cc)
    ];
    end = λ a at e. elim (bind_err (read_from a) (λ x. Ok (decl_of src x)) (faults.Ended at) e) [
      | inl one ↦ from_settled.end a at one
      | inr two ↦ absurd (let no = two.2 in cc)
    ];
    goes_on = λ a e.
        let more = from_settled.goes_on a (sym (meant_wants (read_from a)) ∙ e) in
        (more.0, more.1, meant_wants (read_from (longer a more.0)) ∙ more.2);
  }

  -- where the block begins
  abbrev pub at_block : Ahead
  at_block = start (window src offset (length src.body))

  pub decl_here : decl_at src basics offset ≡ decl_from at_block
  unfolding read_at
  decl_here = refl

-- ---- the same in a longer file

module _ (src : Sections) (basics : Basics) (offset : ℕ) (more : List ℕ) (within : offset ≤ length src.body) where
  resolved_same : {X : Type 0} (r : Result (X × Ahead) Stopped) (done : Table) → resolved (with_behind src more) offset r done ≡ resolved src offset r done
  resolved_same (Ok x) done =
      ap (λ (k : Result Table ByteFault). k >>= λ known. Ok ((x.0, record { spot = (x.1).spot; before = (x.1).before; mentions = [] }), known)) (resolve_stays src more offset within (x.1).mentions done)
  resolved_same (Err s) done = ap (λ (k : Result Table ByteFault). k >>= λ known. Err s.fault) (resolve_stays src more offset within s.mentions done)

  after_same : (head : Head) (a : Ahead) (done : Table) → after_head (with_behind src more) basics offset head a done ≡ after_head src basics offset head a done
  after_same (whole form) a done = refl
  after_same (of_type pos tparams underlying) a done = by (has_methods (type_spelled src.version done underlying))
    where
      by : (methods : Bool) → after_type (with_behind src more) offset pos tparams underlying a done methods ≡ after_type src offset pos tparams underlying a done methods
      by true =
          ap (λ (r : Result (List Receiver × Ahead) Stopped). resolved (with_behind src more) offset r done >>= methods_of pos tparams underlying) (λ i. receivers_same src more i a)
          ∙ ap (λ (r : Result (Typed (List Receiver)) ByteFault). r >>= methods_of pos tparams underlying) (resolved_same (list_at (receiver_at src) a) done)
      by false = refl
  after_same (of_constant pos type at) a done = by (spelling_at at (basic_type basics (type_spelled src.version done type)))
    where
      by : (r : Result Spelling ByteFault)
          → (r >>= λ spelling. fault_alone (value_at (with_behind src more) spelling a) >>= λ value. read (constant_of pos type (value.0).value) (value.0).offset value.1 done)
          ≡ (r >>= λ spelling. fault_alone (value_at src spelling a) >>= λ value. read (constant_of pos type (value.0).value) (value.0).offset value.1 done)
      by (Ok spelling) = ap (λ (r : Result (SpelledConst × Ahead) Stopped). fault_alone r >>= λ value. read (constant_of pos type (value.0).value) (value.0).offset value.1 done) (λ i. value_same src more spelling i a)
      by (Err f) = refl

  then_same : (r : Result (Typed Head) ByteFault) → (r >>= λ w. after_head (with_behind src more) basics offset w.0.0 w.0.1 w.1) ≡ (r >>= after_typed src basics offset)
  then_same (Ok w) = after_same w.0.0 w.0.1 w.1
  then_same (Err f) = refl

  read_longer : read_from (with_behind src more) basics offset (at_block (with_behind src more) basics offset) ≡ read_from src basics offset (longer (at_block src basics offset) more)
  read_longer =
      ap (λ (r : Result (Head × Ahead) Stopped). resolved (with_behind src more) offset r [] >>= λ w. after_head (with_behind src more) basics offset w.0.0 w.0.1 w.1)
      (λ i. head_same src more i (start_longer src more offset within i))
      ∙ ap (λ (r : Result (Typed Head) ByteFault). r >>= λ w. after_head (with_behind src more) basics offset w.0.0 w.0.1 w.1) (resolved_same (head_at src (longer (at_block src basics offset) more)) [])
      ∙ then_same (resolved src offset (head_at src (longer (at_block src basics offset) more)) [])

  pub decl_longer : decl_at (with_behind src more) basics offset ≡ decl_from src basics offset (longer (at_block src basics offset) more)
  unfolding read_at
  decl_longer = ap (λ (r : Result Read ByteFault). r >>= λ x. Ok (decl_of src x)) read_longer
