-- Two readings of one declaration, with different descriptors finished, agree where all of these lie apart.
use Rattle.std.proofs.Common.{◌≡◌, ℕ, ◌-◌, ◌≤◌, inl, inr, List, [], length, Contains, Bool, true, false, Result, Ok, Option, None, refl, sym, ◌∙◌, ap, subst, arith}
use Rattle.std.specs.List.{AllByRecursion}
use Rattle.wire_bytes.specs.declared.fault.ByteFault.{ByteFault}
use Rattle.wire_bytes.specs.Reading.{place, ◌>>=◌}
use Rattle.wire_bytes.proofs.Steps.{bind_ok, done_is}
use Rattle.wire_bytes.proofs.Spellings.{IsBytes}
use Rattle.type_terms.specs.DeclarationLaws.{form_agrees}
use Rattle.type_terms.specs.Declarations.{constant_of, defined_of, form_types, form_map}
use Rattle.decl_spelling.specs.declared.mention.Mention.{Mention}
use Rattle.decl_spelling.specs.Sections.{Sections, Basics, window}
use Rattle.decl_spelling.specs.Spelled.{SpelledText, SpelledPos, SpelledType, form_meant, without_pos}
use Rattle.decl_spelling.specs.Reading.{Ahead, start, list_at}
use Rattle.decl_spelling.specs.Tables.{Finished, Table, at, finished_tree, type_named, type_spelled}
use Rattle.decl_spelling.specs.Descent.{block_at, resolve_all}
use Rattle.decl_spelling.specs.Constants.{basic_type, spelling_at, value_at}
use Rattle.decl_spelling.specs.Declarations.{FlatForm, Receiver, Head, whole, of_type, of_constant, head_at, receiver_at, resolved, has_methods, Read, read, methods_of, after_type, fault_alone, after_constant, after_head, decl_of}
use Rattle.decl_spelling.specs.Spelling.{Block, Sound}
use Rattle.decl_spelling.specs.KnownTypes.{Kept, IsKnown, IsAnswered}
use Rattle.decl_spelling.proofs.Took.{head_asks}
use Rattle.decl_spelling.proofs.FlatLaws.{head_took}
use Rattle.decl_spelling.proofs.TableLaws.{block, blocks_of, finished_of, found_all}
use Rattle.decl_spelling.proofs.KnownTypeLemmas.{known_as, known_named, names_more, named_basic, named_block}
use Rattle.decl_spelling.proofs.AskLemmas.{asks_from}
use Rattle.decl_spelling.proofs.TypeTakes.{Fine, all_known}
use Rattle.decl_spelling.proofs.TypeAgain.{Inside, IsNameable, found_one, all_again}
use Rattle.decl_spelling.proofs.BlockAgain.{all_asked, block_again}
use Rattle.decl_spelling.proofs.BlockTakes.{window_fits, block_takes}
use Rattle.decl_spelling.proofs.MapLemmas.{all_weaker, all_both}
use Rattle.decl_spelling.proofs.Forms.{form_asks, form_all}
use Rattle.decl_spelling.proofs.DeclTakes.{blank, resolved_ok}
use Rattle.decl_spelling.proofs.DeclAgain.{next_done, resolved_done}
use Rattle.shared_reading.specs.WithMemory.{read_with}
use Rattle.shared_reading.proofs.MemoryLemmas.{kept_blocks, inside_all}
use Rattle.shared_reading.proofs.WholeReads.{AreKnown, Whole, underlying_known, head_read, behind_head}

module _ (src : Sections) (basics : Basics) (strings : IsBytes src.strings) (bytes : IsBytes src.body) (all : List Block) (sound : Sound src all) where
  -- a number names one type
  pub same_tree : (offset : ℕ) (some others : Table) (n : ℕ) → Inside src all some → Inside src all others → IsKnown src some offset n → IsKnown src others offset n
      → type_named src.version some n ≡ type_named src.version others n
  same_tree offset some others n in_some in_others (inl small) known = named_basic src some n small.0 ∙ sym (named_basic src others n small.0)
  same_tree offset some others n in_some in_others (inr large) (inl small) = let le = large.0 in let lt = small.0 in absurd (omega arith)
  same_tree offset some others n in_some in_others (inr x) (inr y) =
      let b = block (n - 32) y.1 in
      let has : Contains all b = found_all (λ e. Contains all (block e.0 e.1)) others (n - 32) y.1 in_others y.2 in
      let one : x.1 ≡ finished_of b = found_one src all sound some b x.1 in_some has x.2 in
      named_block src some n x.0 ∙ ap finished_tree x.2 ∙ ap (λ (f : Finished). f.tree) one ∙ sym (ap finished_tree y.2) ∙ sym (named_block src others n y.0)

  answered_nameable : (offset : ℕ) (known : Table) (ms : List Mention) → ((b : Block) → Contains (blocks_of known) b → Contains all b) → AllByRecursion (IsAnswered src known offset) ms → AllByRecursion (IsNameable src all offset) ms
  answered_nameable offset known ms more =
      all_weaker (IsAnswered src known offset) (IsNameable src all offset)
      (λ m answered. (known_as src known (without_pos m.value), names_more src (blocks_of known) all offset (known_as src known (without_pos m.value)) more (known_named src known offset (without_pos m.value) answered.0), refl, answered.1)) ms

  -- what is read with one table is read with another
  abbrev Resolved : ℕ → List Mention → Table → Type 0
  Resolved offset ms others = (known : Table) × (resolve_all src (block_at src offset) offset ms others ≡ Ok known) × Inside src all known × Kept others known × AllByRecursion (λ m. IsKnown src known offset m.value) ms

  types_agree : (offset : ℕ) (ms : List Mention) (some known others : Table) → offset ≤ length src.body → Fine src some → resolve_all src (block_at src offset) offset ms some ≡ Ok known
      → ((b : Block) → Contains (blocks_of known) b → Contains all b) → Inside src all others → Resolved offset ms others
  types_agree offset ms some known others within fine e more inside =
      let taken = all_known src (block_at src offset) (block_takes src strings bytes offset) offset within ms some known fine e in
      all_again src all sound (block_at src offset) offset (block_again src strings bytes all sound offset offset (omega arith) within) ms others (answered_nameable offset known ms more taken.1) inside

  -- What is read is the same, with the types of another table.
  pub record Agrees (others : Table) (x : Read) (r : Result Read ByteFault) : Type 0 where
    pub y : Read
    pub is : r ≡ Ok y
    pub form : y.form ≡ x.form
    pub value : y.value ≡ x.value
    pub end : y.end ≡ x.end
    pub inside : Inside src all y.table
    pub kept : Kept others y.table

  abbrev pub AmongAll : Table → Type 0
  AmongAll t = (b : Block) → Contains (blocks_of t) b → Contains all b

  module _ (offset : ℕ) (within : offset ≤ length src.body) (a : Ahead) (some others : Table) (fine : Fine src some) (in_some : Inside src all some) (in_others : Inside src all others) where
    form_agrees_so : (form : FlatForm) (value : Option ℕ) (x : Read) → read form value a some ≡ Ok x → Agrees others x (read form value a others)
    form_agrees_so form value x e =
        let is = done_is (record { form = form; value = value; end = place a.spot; table = some }) x e in
        subst (λ (x : Read). Agrees others x (read form value a others)) is
        (record { y = record { form = form; value = value; end = place a.spot; table = others }; is = refl; form = refl; value = refl; end = refl; inside = in_others; kept = λ o f found. found })

    methods_agree : (pos : SpelledPos) (tparams : List SpelledType) (underlying : SpelledType) (x : Read) → AmongAll x.table → after_type src offset pos tparams underlying a some true ≡ Ok x
        → Agrees others x (after_type src offset pos tparams underlying a others true)
    methods_agree pos tparams underlying x among e =
        let both = bind_ok (resolved src offset (list_at (receiver_at src) a) some) (methods_of pos tparams underlying) x e in
        let y = both.0 in
        let list = resolved_ok src offset (list_at (receiver_at src) a) some y both.1 in
        let methods = (list.0).0 in
        let b = (list.0).1 in
        let same : (methods, blank b) ≡ y.0 = list.3 in
        let rec : Read = record { form = defined_of pos tparams underlying methods; value = None; end = place b.spot; table = y.1 } in
        let is = done_is rec x (ap (λ (z : List Receiver × Ahead). read (defined_of pos tparams underlying z.0) None z.1 y.1) same ∙ both.2) in
        let types = types_agree offset b.mentions some y.1 others within fine list.2 (subst (λ (x : Read). AmongAll x.table) (sym is) among) in_others in
        let again : Read = record { form = defined_of pos tparams underlying methods; value = None; end = place b.spot; table = types.0 } in
        subst (λ (x : Read). Agrees others x (after_type src offset pos tparams underlying a others true)) is
        (record {
          y = again;
          is = next_done (resolved src offset (list_at (receiver_at src) a) others) (methods_of pos tparams underlying) ((methods, blank b), types.0) again
              (resolved_done src offset (list_at (receiver_at src) a) (methods, b) others types.0 list.1 types.1) refl;
          form = refl;
          value = refl;
          end = refl;
          inside = types.2;
          kept = types.3;
        })

    type_agrees_so : (pos : SpelledPos) (tparams : List SpelledType) (underlying : SpelledType) (x : Read) → AmongAll x.table → (own : Bool) → after_type src offset pos tparams underlying a some own ≡ Ok x
        → Agrees others x (after_type src offset pos tparams underlying a others own)
    type_agrees_so pos tparams underlying x among true e = methods_agree pos tparams underlying x among e
    type_agrees_so pos tparams underlying x among false e = form_agrees_so (defined_of pos tparams underlying []) None x e

    constant_agrees : (pos : SpelledPos) (type : SpelledType) (at : ℕ) (x : Read) → type_spelled src.version some type ≡ type_spelled src.version others type → after_constant src basics pos type at a some ≡ Ok x
        → Agrees others x (after_constant src basics pos type at a others)
    constant_agrees pos type at x same e =
        let tree = type_spelled src.version some type in
        let chosen = bind_ok (spelling_at at (basic_type basics tree)) (λ spelling. fault_alone (value_at src spelling a) >>= λ value. read (constant_of pos type (value.0).value) (value.0).offset value.1 some) x e in
        let valued = bind_ok (fault_alone (value_at src chosen.0 a)) (λ value. read (constant_of pos type (value.0).value) (value.0).offset value.1 some) x chosen.2 in
        let z = valued.0 in
        let is = done_is (record { form = constant_of pos type (z.0).value; value = (z.0).offset; end = place z.1.spot; table = some }) x valued.2 in
        let again : Read = record { form = constant_of pos type (z.0).value; value = (z.0).offset; end = place z.1.spot; table = others } in
        subst (λ (x : Read). Agrees others x (after_constant src basics pos type at a others)) is
        (record {
          y = again;
          is = next_done (spelling_at at (basic_type basics (type_spelled src.version others type))) (λ spelling. fault_alone (value_at src spelling a) >>= λ value. read (constant_of pos type (value.0).value) (value.0).offset value.1 others) chosen.0 again
              (ap (λ tree. spelling_at at (basic_type basics tree)) (sym same) ∙ chosen.1)
              (next_done (fault_alone (value_at src chosen.0 a)) (λ value. read (constant_of pos type (value.0).value) (value.0).offset value.1 others) z again valued.1 refl);
          form = refl;
          value = refl;
          end = refl;
          inside = in_others;
          kept = λ o f found. found;
        })

    pub after_agrees : (head : Head) (x : Read) → AmongAll x.table → AreKnown src offset some (head_asks head) → AreKnown src offset others (head_asks head) → after_head src basics offset head a some ≡ Ok x
        → Agrees others x (after_head src basics offset head a others)
    after_agrees (whole form) x among asks asks' e = form_agrees_so form None x e
    after_agrees (of_type pos tparams underlying) x among asks asks' e =
        let same = same_tree offset some others underlying.number in_some in_others (underlying_known src offset some tparams underlying asks) (underlying_known src offset others tparams underlying asks') in
        subst (λ (own : Bool). Agrees others x (after_type src offset pos tparams underlying a others own)) (ap has_methods same)
        (type_agrees_so pos tparams underlying x among (has_methods (type_spelled src.version some underlying)) e)
    after_agrees (of_constant pos type at) x among asks asks' e =
        constant_agrees pos type at x (same_tree offset some others type.number in_some in_others asks.0 asks'.0) e

  pub read_agrees : (offset : ℕ) (some others : Table) (x : Read) → Fine src some → read_with src basics some offset ≡ Ok x → AmongAll x.table → Inside src all others → Agrees others x (read_with src basics others offset)
  unfolding read_with
  read_agrees offset some others x fine e among inside =
      let s = start (window src offset (length src.body)) in
      let h = head_read src basics strings bytes some offset x fine e in
      let w = behind_head src basics strings bytes some offset x h in
      let among_known : AmongAll h.known = λ b has. among b (kept_blocks h.known x.table 0 h.added.fine.rising w.added.kept b has) in
      let types = types_agree offset h.ahead.mentions some h.known others h.within fine h.types among_known inside in
      let taken = head_took src strings s (window_fits src offset (length src.body) bytes) h.head h.ahead h.read_head in
      let asks' : AreKnown src offset types.0 (head_asks h.head) = all_asked (IsKnown src types.0 offset) h.ahead.mentions (head_asks h.head) (asks_from s h.ahead (head_asks h.head) refl taken.went) types.4 in
      let rest = after_agrees offset h.within (blank h.ahead) h.known types.0 h.added.fine (inside_all src all h.known among_known) types.2 h.head x among h.asks asks' h.behind_it in
      record {
        y = rest.y;
        is = next_done (resolved src offset (head_at src s) others) (λ head. after_head src basics offset (head.0).0 (head.0).1 head.1) ((h.head, blank h.ahead), types.0) rest.y
            (resolved_done src offset (head_at src s) (h.head, h.ahead) others types.0 h.read_head types.1) rest.is;
        form = rest.form;
        value = rest.value;
        end = rest.end;
        inside = rest.inside;
        kept = λ o f found. rest.kept o f (types.3 o f found);
      }

  -- so it is one declaration
  pub same_decl : (offset : ℕ) (some others : Table) (x y : Read) → Whole src offset some x → Whole src offset others y → Inside src all x.table → Inside src all y.table → y.form ≡ x.form → decl_of src y ≡ decl_of src x
  same_decl offset some others x y whole_x whole_y in_x in_y form =
      let known_y : AreKnown src offset y.table (form_asks x.form) = subst (λ (form : FlatForm). AreKnown src offset y.table (form_asks form)) form whole_y.known in
      let types_x = form_all (λ ask. IsKnown src x.table offset ask.0) (λ (t : SpelledType). IsKnown src x.table offset t.number) (λ t asked k. k) x.form whole_x.known in
      let types_y = form_all (λ ask. IsKnown src y.table offset ask.0) (λ (t : SpelledType). IsKnown src y.table offset t.number) (λ t asked k. k) x.form known_y in
      let each : AllByRecursion (λ (t : SpelledType). type_spelled src.version y.table t ≡ type_spelled src.version x.table t) (form_types x.form)
      = all_both (λ (t : SpelledType). IsKnown src y.table offset t.number) (λ (t : SpelledType). IsKnown src x.table offset t.number) (λ (t : SpelledType). type_spelled src.version y.table t ≡ type_spelled src.version x.table t)
      (λ t known_y known_x. same_tree offset y.table x.table t.number in_y in_x known_y known_x) (form_types x.form) types_y types_x in
      ap form_meant
      (ap (λ (form : FlatForm). form_map (λ pos. pos) (λ text. text) (type_spelled src.version y.table) form) form
      ∙ form_agrees (type_spelled src.version y.table) (type_spelled src.version x.table) SpelledPos SpelledText x.form each)
